-- At the head of the loop the frames before g are written, but for their last g bits, which are those of `before`.
use Rattle.std.proofs.Common.{◌≡◌, ◌*◌, ◌%◌, ◌^◌, take}
use Rattle.base.specs.Tab.{tab}
use Rattle.line.specs.Bit.{field}
use Rattle.t1write.proofs.Words.{frames_octet}
use Rattle.t1write.proofs.write_eight.Given as goal

abbrev pub invariant-loop-g : goal.invariant-loop-g
invariant-loop-g l =
    (l.before % 2 ^ l.g ≡ field l.octets (191 * l.g) l.g) × (take (24 * l.g) l.out ≡ tab (24 * l.g) (frames_octet l.octets l.framing))
