-- What the calls on a stream answer, in numbers (KIT §5, §8), and the stream then.
use Rattle.std.specs.Prelude.{ℕ, Result, Ok, Err}
use Rattle.base.specs.Number.{refusal_number}
use Rattle.base.specs.declared.Refused.{Refused}
use Rattle.read.specs.Answer.{Reading, answered}
use Rattle.read.specs.declared.Reading as code
use Rattle.stream.specs.declared.Stream.{Stream}

-- the number, 0 where the chunk is taken, and how many multiframes left
pub record Fed : Type 0 where
  pub stream : Stream
  pub number : ℕ
  pub multiframes : ℕ

-- the reading of the joined line
pub record Ended : Type 0 where
  pub stream : Stream
  pub reading : Reading

abbrev pub fed_answer : Stream → Result ℕ Refused → Fed
fed_answer st (Ok n) = record { stream = st; number = 0; multiframes = n }
fed_answer st (Err e) = record { stream = st; number = refusal_number e; multiframes = 0 }

abbrev pub end_answer : Stream → Result code.Reading Refused → Ended
end_answer st r = record { stream = st; reading = answered r }
