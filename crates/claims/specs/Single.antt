-- Nothing is left open: any two results that an entry's contract admits are equal, with what they leave in every lent
-- octet. The entries are those of `align`, `read`, `stream`, `signals`, `write`, `signalled`, `exchange`, `t1read` and
-- `t1write`, and the sixteen functions of the C interface over them.
use Rattle.std.specs.Prelude.{ℕ, ◌≡◌, List, Result}
use Rattle.base.specs.declared.Refused.{Refused}
use Rattle.base.specs.Number.{number_in}
use Rattle.align.specs.Why.{why}
use Rattle.align.specs.declared.Why.{Why}
use Rattle.read.specs.Entry.{Read, refused_place}
use Rattle.read.specs.Answer as reads
use Rattle.read.specs.declared.Reading.{Reading}
use Rattle.stream.specs.Entry.{starting, Feeds, ending}
use Rattle.stream.specs.declared.Stream.{Stream}
use Rattle.stream.specs.Answer as streams
use Rattle.write.specs.Entry.{Wrote}
use Rattle.write.specs.Answer.{answered}
use Rattle.signals.specs.Entry.{Signalled}
use Rattle.signals.specs.Answer as heard
use Rattle.signals.specs.declared.Signalling.{Signalling}
use Rattle.signalled.specs.Entry as signalled
use Rattle.exchange.specs.Mapping.{Mapped}
use Rattle.exchange.specs.Machine.{start_state, hosted, keyed, crossed}
use Rattle.exchange.specs.declared.State.{State}
use Rattle.exchange.specs.Answer as exchange
use Rattle.t1read.specs.Entry as t1reading
use Rattle.t1read.specs.Answer as t1reads
use Rattle.t1read.specs.declared.Reading as t1read
use Rattle.t1write.specs.Entry as t1writing
use Rattle.t1write.specs.Answer as t1writes
use Rattle.jikhvanto.specs.Calls.{JkRead, JkStreamStart, JkFeed, JkEnd, JkSignals, JkWhy, JkWrite, JkWriteSignalled}
use Rattle.jikhvanto.specs.Calls.{JkT1Read, JkT1Write, JkT1WriteSignalled, JkStart, JkHost, JkKey, JkBoundary, JkMap}

pub record Single : Type 0 where
  pub read : (s payload slot0 : List ℕ) (r r' : Result Reading Refused) (p p' o o' : List ℕ)
      → Read s payload slot0 (reads.answered r) p o → Read s payload slot0 (reads.answered r') p' o'
      → (r ≡ r') × (p ≡ p') × (o ≡ o')
  pub stream_start : (st st' : Stream) → st ≡ starting → st' ≡ starting → st ≡ st'
  pub feed : (st : Stream) (window t payload slot0 : List ℕ) (x x' : Stream) (r r' : Result ℕ Refused) (w w' p p' o o' : List ℕ)
      → Feeds st window t payload slot0 (streams.fed_answer x r) w p o → Feeds st window t payload slot0 (streams.fed_answer x' r') w' p' o'
      → (x ≡ x') × (r ≡ r') × (w ≡ w') × (p ≡ p') × (o ≡ o')
  pub end : (st x x' : Stream) (r r' : Result Reading Refused) → streams.end_answer x r ≡ ending st → streams.end_answer x' r' ≡ ending st
      → (x ≡ x') × (r ≡ r')
  pub signals : (s out : List ℕ) (r r' : Result Signalling Refused) (x x' : List ℕ)
      → Signalled s out (heard.answered r) x → heard.place_with r ≡ refused_place s (number_in r)
      → Signalled s out (heard.answered r') x' → heard.place_with r' ≡ refused_place s (number_in r')
      → (r ≡ r') × (x ≡ x')
  pub why : (s : List ℕ) (p : ℕ) (r r' : Result Why Refused) → r ≡ why s p → r' ≡ why s p → r ≡ r'
  pub write : (p o : List ℕ) (c : ℕ) (out : List ℕ) (r r' : Result ℕ Refused) (x x' : List ℕ)
      → Wrote p o c out (answered r) x → Wrote p o c out (answered r') x' → (r ≡ r') × (x ≡ x')
  pub write_signalled : (p o : List ℕ) (c : ℕ) (xy v out : List ℕ) (r r' : Result ℕ Refused) (x x' : List ℕ)
      → signalled.Wrote p o c xy v out (answered r) x → signalled.Wrote p o c xy v out (answered r') x'
      → (r ≡ r') × (x ≡ x')
  pub map_payload : (map payload out : List ℕ) (r r' : Result (Unit {0}) Refused) (x x' : List ℕ)
      → Mapped map payload out (number_in r) x → Mapped map payload out (number_in r') x' → (r ≡ r') × (x ≡ x')
  pub start : (s s' : State) → s ≡ start_state → s' ≡ start_state → s ≡ s'
  pub host : (s : State) (octets : List ℕ) (t t' : State) (r r' : Result ℕ Refused)
      → exchange.answered t r ≡ hosted s octets → exchange.answered t' r' ≡ hosted s octets → (t ≡ t') × (r ≡ r')
  pub key : (s : State) (position : ℕ) (t t' : State) (r r' : Result (Unit {0}) Refused)
      → exchange.told t r ≡ keyed s position → exchange.told t' r' ≡ keyed s position → (t ≡ t') × (r ≡ r')
  pub boundary : (s t t' : State) → exchange.accept t 0 ≡ crossed s → exchange.accept t' 0 ≡ crossed s → t ≡ t'
  pub t1_read : (s payload link : List ℕ) (r r' : Result t1read.Reading Refused) (p p' l l' : List ℕ)
      → t1reading.Read s payload link (t1reads.answered r) p l → t1reading.Read s payload link (t1reads.answered r') p' l'
      → (r ≡ r') × (p ≡ p') × (l ≡ l')
  pub t1_write : (p l : List ℕ) (c : ℕ) (out : List ℕ) (r r' : Result ℕ Refused) (x x' : List ℕ)
      → t1writing.Wrote p l c out (t1writes.answered r) x → t1writing.Wrote p l c out (t1writes.answered r') x'
      → (r ≡ r') × (x ≡ x')
  pub t1_write_signalled : (p l : List ℕ) (c : ℕ) (g out : List ℕ) (r r' : Result ℕ Refused) (x x' : List ℕ)
      → t1writing.WroteSignalled p l c g out (t1writes.answered r) x
      → t1writing.WroteSignalled p l c g out (t1writes.answered r') x' → (r ≡ r') × (x ≡ x')
  pub jk_read : (image payload slot0 : List ℕ) (r r' : ℕ) (p p' o o' a a' : List ℕ)
      → JkRead image payload slot0 r p o a → JkRead image payload slot0 r' p' o' a'
      → (r ≡ r') × (p ≡ p') × (o ≡ o') × (a ≡ a')
  pub jk_stream_start : (s s' : List ℕ) → JkStreamStart s → JkStreamStart s' → s ≡ s'
  pub jk_feed : (stream chunk payload slot0 : List ℕ) (r r' : ℕ) (s s' p p' o o' a a' : List ℕ)
      → JkFeed stream chunk payload slot0 r s p o a → JkFeed stream chunk payload slot0 r' s' p' o' a'
      → (r ≡ r') × (s ≡ s') × (p ≡ p') × (o ≡ o') × (a ≡ a')
  pub jk_end : (stream : List ℕ) (r r' : ℕ) (s s' a a' : List ℕ) → JkEnd stream r s a → JkEnd stream r' s' a'
      → (r ≡ r') × (s ≡ s') × (a ≡ a')
  pub jk_signals : (image abcd : List ℕ) (r r' : ℕ) (x x' a a' : List ℕ)
      → JkSignals image abcd r x a → JkSignals image abcd r' x' a' → (r ≡ r') × (x ≡ x') × (a ≡ a')
  pub jk_why : (image : List ℕ) (place r r' : ℕ) (a a' : List ℕ) → JkWhy image place r a → JkWhy image place r' a'
      → (r ≡ r') × (a ≡ a')
  pub jk_write : (payload overhead : List ℕ) (check : ℕ) (out : List ℕ) (r r' : ℕ) (x x' a a' : List ℕ)
      → JkWrite payload overhead check out r x a → JkWrite payload overhead check out r' x' a'
      → (r ≡ r') × (x ≡ x') × (a ≡ a')
  pub jk_write_signalled : (payload overhead : List ℕ) (check : ℕ) (xy abcd out : List ℕ) (r r' : ℕ) (x x' a a' : List ℕ)
      → JkWriteSignalled payload overhead check xy abcd out r x a → JkWriteSignalled payload overhead check xy abcd out r' x' a'
      → (r ≡ r') × (x ≡ x') × (a ≡ a')
  pub jk_t1_read : (image payload link : List ℕ) (r r' : ℕ) (p p' l l' a a' : List ℕ)
      → JkT1Read image payload link r p l a → JkT1Read image payload link r' p' l' a'
      → (r ≡ r') × (p ≡ p') × (l ≡ l') × (a ≡ a')
  pub jk_t1_write : (payload link : List ℕ) (check : ℕ) (out : List ℕ) (r r' : ℕ) (x x' a a' : List ℕ)
      → JkT1Write payload link check out r x a → JkT1Write payload link check out r' x' a'
      → (r ≡ r') × (x ≡ x') × (a ≡ a')
  pub jk_t1_write_signalled : (payload link : List ℕ) (check : ℕ) (signalling out : List ℕ) (r r' : ℕ) (x x' a a' : List ℕ)
      → JkT1WriteSignalled payload link check signalling out r x a
      → JkT1WriteSignalled payload link check signalling out r' x' a'
      → (r ≡ r') × (x ≡ x') × (a ≡ a')
  pub jk_start : (s s' : List ℕ) → JkStart s → JkStart s' → s ≡ s'
  pub jk_host : (state octets : List ℕ) (r r' : ℕ) (s s' a a' : List ℕ)
      → JkHost state octets r s a → JkHost state octets r' s' a' → (r ≡ r') × (s ≡ s') × (a ≡ a')
  pub jk_key : (state : List ℕ) (position r r' : ℕ) (s s' : List ℕ)
      → JkKey state position r s → JkKey state position r' s' → (r ≡ r') × (s ≡ s')
  pub jk_boundary : (state : List ℕ) (r r' : ℕ) (s s' : List ℕ) → JkBoundary state r s → JkBoundary state r' s'
      → (r ≡ r') × (s ≡ s')
  pub jk_map : (state payload out : List ℕ) (r r' : ℕ) (x x' : List ℕ)
      → JkMap state payload out r x → JkMap state payload out r' x' → (r ≡ r') × (x ≡ x')
