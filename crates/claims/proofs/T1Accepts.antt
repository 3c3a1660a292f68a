-- Which inputs the entries of T1 accept: from each number 0 to what it tells of the call, and back.
use Prim.Native.Nat.{ℕ, ◌*◌, ◌≤◌, ◌<◌}
use mathlib.Core.Path.{◌≡◌}
use mathlib.Core.List.{List}
use mathlib.Core.Logic.{◌↔◌}
use native.Mathlib.Decide.{dec_lt}
use native.Mathlib.Omega.{arith}
use borrow.Author.Tests.{le-ltb}
use lib.Dec.{lit<}
use lib.ListN.{length, get_or, get_or-eq_default}
use Rattle.t1.specs.Payload.{superframes}
use Rattle.t1read.specs.Entry as reads
use Rattle.t1read.specs.Entry.{place_in, whole_in}
use Rattle.t1read.proofs.EntryLaws as laws
use Rattle.t1read.proofs.EntryLaws.{ready, some_stands}
use Rattle.t1write.specs.Entry as writes
use Rattle.t1write.specs.Inputs.{OfBits}
use Rattle.t1write.proofs.Calls.{Sound, accepts, accepts_signalled}
use Rattle.claims.specs.T1Accepts.{ToReadT1, ToWriteT1, ToSignalT1}

pub read_is : (s : List ℕ) (a b : ℕ) → reads.refusal s a b ≡ 0 ↔ ToReadT1 s a b
read_is s a b = (
  λ e.
      let d = ready s a b e in
      record { good = d.good; p = place_in s; stands = d.first.stands; payload = d.payload; link = d.link },
  λ t.
      let w = some_stands s t.p t.stands in
      laws.accepts s a b t.good w.0 w.1
      (rw (le-ltb a (576 * whole_in s) t.payload, le-ltb b (12 * whole_in s) t.link)),
)

-- past its end a list has zeros
of_bits : (l : List ℕ) (n : ℕ) → length l ≡ n → ((i : ℕ) → i < n → get_or l i 0 ≤ 1) → OfBits l n
of_bits l n e h =
    record {
      long = e;
      bits = λ i.
          elim (dec_lt i n) [
            | yes k ↦ omega (arith, h i k)
            | no k ↦ rw (get_or-eq_default l 0 {n = i} (omega arith)) (lit< tt)
          ];
    }

module _ (p l : List ℕ) (c m : ℕ) where
  to_write : Sound p l c → 579 * superframes p ≤ m → ToWriteT1 p l c m
  to_write s room =
      let g = s.inputs in
      record {
        n = superframes p;
        least = s.least;
        most = s.most;
        payload = g.payload;
        link = g.link.long;
        link_limited = λ i h. omega (arith, g.link.bits i);
        check = omega (arith, g.six_bits);
        room = omega (arith, room);
      }

  sound : (t : ToWriteT1 p l c m) → Sound p l c × (579 * superframes p ≤ m)
  sound t =
      let e : superframes p ≡ t.n = omega (arith, t.payload) in (
        record {
          inputs = record {
            payload = omega (arith, t.payload);
            link = rw e (of_bits l (12 * t.n) t.link t.link_limited);
            six_bits = omega (arith, t.check);
          };
          least = omega (arith, t.least);
          most = omega (arith, t.most);
        },
        omega (arith, t.room),
      )

  pub write_is : writes.refusal p l c m ≡ 0 ↔ ToWriteT1 p l c m
  write_is = (
    λ z. let s = (accepts p l c m).0 z in to_write s.0 s.1,
    λ t. (accepts p l c m).1 (sound t),
  )

  pub signal_is : (g : List ℕ) → writes.signalled_refusal p l c g m ≡ 0 ↔ ToSignalT1 p l c g m
  signal_is g = (
    λ z.
        let s = (accepts_signalled p l c m g).0 z in
        record {
          written = to_write s.0 s.2;
          signals = s.1.long;
          signals_limited = λ i h. omega (arith, s.1.bits i);
        },
    λ t.
        let s = sound t.written in
        (accepts_signalled p l c m g).1
        (s.0, of_bits g (96 * superframes p) t.signals t.signals_limited, s.1),
  )
