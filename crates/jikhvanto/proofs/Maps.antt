-- Maps laid one after the other behind three octets.
use Prim.Native.Nat.{ℕ}
use mathlib.Core.Path.{◌≡◌, refl, ap, ◌∙◌}
use mathlib.Core.List.{List, ◌++◌, append_assoc, append-nil}
use native.Mathlib.Omega.{arith}
use lib.ListN.{length, take, drop, replicate, length-append}
use lib.Seq.{take_at, drop_at}
use Rattle.exchange.specs.declared.State.{State}
use Rattle.jikhvanto.specs.Octets.{flags_of, octets_of}

-- a map over 32 octets, from octet n on
abbrev over : ℕ → List ℕ → List ℕ → List ℕ
over n m o = take n o ++ (m ++ drop 32 (drop n o))

over_at : (n : ℕ) (p q m : List ℕ) → length p ≡ n → over n m (p ++ q) ≡ (p ++ m) ++ drop 32 q
over_at n p q m e = rw (take_at p q n e, drop_at p q n e, append_assoc)

-- the octets of a state, map by map
module _ (s : State) (a : List ℕ) (la : length a ≡ 32) where
  abbrev one : List ℕ
  one = over 3 a (flags_of s ++ replicate 96 0)

  one_is : one ≡ flags_of s ++ a ++ replicate 64 0
  one_is = over_at 3 (flags_of s) (replicate 96 0) a refl

  pub one_length : length one ≡ 99
  one_length = ap length one_is ∙ length-append (flags_of s ++ a) (replicate 64 0) ∙ omega arith

  module _ (b : List ℕ) (lb : length b ≡ 32) where
    abbrev two : List ℕ
    two = over 35 b one

    two_is : two ≡ flags_of s ++ a ++ b ++ replicate 32 0
    two_is = ap (over 35 b) one_is ∙ over_at 35 (flags_of s ++ a) (replicate 64 0) b (omega arith)

    pub two_length : length two ≡ 99
    two_length = ap length two_is ∙ length-append (flags_of s ++ a ++ b) (replicate 32 0) ∙ omega (arith, length-append (flags_of s ++ a) b)

    pub packed : {c : List ℕ} → a ≡ s.live → b ≡ s.staged → c ≡ s.waiting → over 67 c two ≡ octets_of s
    unfolding octets_of
    packed {c} ea eb ec =
        ap (over 67 c) two_is
        ∙ over_at 67 (flags_of s ++ a ++ b) (replicate 32 0) c (length-append (flags_of s ++ a) b ∙ omega arith)
        ∙ append-nil (flags_of s ++ a ++ b ++ c)
        ∙ rw (ea, eb, ec)
