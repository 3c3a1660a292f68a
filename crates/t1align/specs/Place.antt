-- Which place stands (KIT §15), as it is worked out: the first of an image from which two whole superframes follow, both
-- with the signal, the first agreeing with the check that the second carries.
use Rattle.std.specs.Prelude.{ℕ, ◌+◌, ◌*◌, Bool, ◌&&◌, List, leb, length}
use Rattle.std.specs.Prelude.{Option}
use Rattle.base.specs.Tab.{least}
use Rattle.t1.specs.Superframe.{framed, agrees}

-- the place p stands
unfoldable pub standing : List ℕ → ℕ → Bool
standing s p = leb (p + 9264) (8 * length s) && (framed s p && (framed s (p + 4632) && agrees s p))

-- the first that does, counted from bit 0
unfoldable pub first_standing : List ℕ → Option ℕ
first_standing s = least (8 * length s) (standing s)
