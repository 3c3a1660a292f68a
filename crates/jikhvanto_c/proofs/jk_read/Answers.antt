-- What `jikhvanto` ensures is what is promised to C; said here, so that buffers exchanged on the way are refused by their names.
use Rattle.jikhvanto_c.proofs.jk_read.Goals as goal

pub returns : goal.returns
returns c = c.jk_read.ensures
