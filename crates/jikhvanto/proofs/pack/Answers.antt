-- Each map is laid behind what stands there.
use native.Mathlib.Omega.{arith}
use Rattle.jikhvanto.proofs.Maps.{two_length, packed}
use Rattle.jikhvanto.proofs.pack.Goals as goal

pub slice_bounds-octets-end-3 : goal.slice_bounds-octets-end-3
slice_bounds-octets-end-3 c =
    omega (arith, two_length c.args.state c.copy_from_slice.new.self (omega arith) c.copy_from_slice-2.new.self (omega arith))

pub returns : goal.returns
returns c =
    packed c.args.state c.copy_from_slice.new.self (omega arith) c.copy_from_slice-2.new.self (omega arith)
    c.copy_from_slice.ensures.after c.copy_from_slice-2.ensures.after c.copy_from_slice-3.ensures.after
