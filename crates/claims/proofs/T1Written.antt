-- A line of T1 that is written, in the words of G.704's table, and read again.
use Prim.Native.Nat.{ℕ, suc, ◌+◌, ◌*◌, ◌/◌, ◌%◌, ◌≤◌, ◌<◌}
use mathlib.Core.Path.{◌≡◌, sym, ap, ap₂, ◌∙◌}
use mathlib.Core.List.{List, ◌++◌}
use Rattle.std.specs.Prelude.{Some}
use native.Mathlib.Omega.{arith}
use borrow.Author.Tests.{eqb-true, le-ltb}
use lib.ListN.{length, get_or, take, drop}
use lib.Seq.{take_at}
use Rattle.base.proofs.TabLaws.{length_tab}
use Rattle.line.specs.Bit.{octet_at}
use Rattle.t1.specs.Superframe.{octet_place, agrees}
use Rattle.t1align.specs.Place.{first_standing}
use Rattle.t1align.proofs.Laws.{first_stands}
use Rattle.t1read.specs.Reading.{whole, octet_of, payload_of, link_bit, link_of}
use Rattle.t1read.specs.Entry.{place_in, whole_in, Read}
use Rattle.t1read.specs.Answer.{Reading}
use Rattle.t1read.proofs.EntryLaws.{accepts, place_is, read_number}
use Rattle.t1write.specs.Writing.{carries, written}
use Rattle.t1write.specs.Inputs.{Inputs}
use Rattle.t1write.proofs.Laws.{length_written, octet_written, payload_back, link_written, link_back, carried_written}
use Rattle.t1write.proofs.Laws.{signal_written, check_written, agrees_written, last_check}
use Rattle.claims.specs.T1Demand2.{AgreesT1, FramingT1, StandardT1, ReadBackT1}
use Rattle.claims.proofs.T1Read.{at, all, front, front_link, compares, none_errored}

-- the line that is written from p, l and c
module _ {p l : List ℕ} {c n : ℕ} (g : Inputs p l c n) where
  abbrev line : List ℕ
  line = written p l c n

  framing : 1 ≤ n → FramingT1 line l c (carries p c n) n
  unfolding carries
  framing least =
      record {
        long = length_written p l c n;
        link = link_written g;
        first_check = carried_written g 0 (omega arith);
        check = λ b h.
            let e : b + 1 ≡ suc b = omega arith in
            carried_written g (b + 1) h ∙ ap (carries p c) e ∙ sym (check_written g b (omega arith));
        last_check = last_check g least;
        signals = λ b i h k. signal_written g b h i (omega arith);
      }

  agree : (b : ℕ) → b + 1 < n → AgreesT1 line 0 b
  unfolding agrees
  agree b h = let q : 0 + 4632 * b ≡ 4632 * b = omega arith in rw q (eqb-true _ _ (agrees_written g b h))

  module _ (octets : (i : ℕ) → get_or p i 0 < 256) where
    pub standard : 1 ≤ n → StandardT1 line p l c (carries p c n) n
    standard least =
        record {
          framing = framing least;
          payload = λ f j h k.
              let i : ℕ = 24 * f + j in
              let u : i / 24 ≡ f = omega arith in
              let v : i % 24 ≡ j = omega arith in
              sym (ap₂ (λ x y. octet_at line (octet_place 0 x y)) u v) ∙ octet_written g i (omega arith) (octets i);
        }

    -- read again
    module _ (two : 2 ≤ n) (few : n ≤ 14) where
      first : first_standing line ≡ Some 0
      first =
          (first_stands line 0).1 (record {
            stands = record {
              room = omega (arith, length_written p l c n);
              first = signal_written g 0 (omega arith);
              second = signal_written g 1 (omega arith);
              agreement = agree 0 (omega arith);
            };
            before = λ q h. absurd (omega arith);
          })

      place_0 : place_in line ≡ 0
      place_0 = sym (place_is line 0 first)

      whole_n : whole_in line ≡ n
      unfolding whole
      whole_n = ap (whole line) place_0 ∙ omega (arith, length_written p l c n)

      module _ (payload link : List ℕ) (r : Reading) (payload' link' : List ℕ) (room : 576 * n ≤ length payload) (room-link : 12 * n ≤ length link)
          (h : Read line payload link r payload' link') where
        number : r.number ≡ 0
        number =
            read_number line payload link r payload' link' h
            ∙ accepts line (length payload) (length link)
            (record { long = omega (arith, length_written p l c n); short = omega (arith, length_written p l c n) }) 0 first
            (rw (whole_n, le-ltb (length payload) (576 * n) room, le-ltb (length link) (12 * n) room-link))

        at_0 : r.place ≡ 0
        at_0 = at line payload link r payload' link' h number ∙ place_0

        all_n : r.whole ≡ n
        all_n = all line payload link r payload' link' h number ∙ whole_n

        pub reads_clean : ReadBackT1 p l n r payload' link'
        unfolding payload_of link_of
        reads_clean =
            record {
              clean = record {
                number = number;
                place = at_0;
                whole = all_n;
                compared = omega (arith, compares line payload link r payload' link' h number, all_n);
                errored = (none_errored line payload link r payload' link' h number).1
                    (λ b k. rw at_0 (agree b (omega (arith, all_n))));
                link = ap (take (12 * n)) (front_link line payload link r payload' link' h number
                    ∙ ap₂ (λ x y. link_of line x y ++ drop (12 * whole_in line) link) at_0 all_n)
                    ∙ take_at (link_of line 0 n) (drop (12 * whole_in line) link) (12 * n) (length_tab (12 * n) (link_bit line 0))
                    ∙ link_back g;
              };
              payload = ap (take (576 * n)) (front line payload link r payload' link' h number
                  ∙ ap₂ (λ x y. payload_of line x y ++ drop (576 * whole_in line) payload) at_0 all_n)
                  ∙ take_at (payload_of line 0 n) (drop (576 * whole_in line) payload) (576 * n) (length_tab (576 * n) (octet_of line 0))
                  ∙ payload_back g octets;
            }
