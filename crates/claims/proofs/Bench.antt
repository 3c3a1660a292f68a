-- The bench cases hold: each computes.
use mathlib.Core.Path.{refl}
use Rattle.base.specs.Tab.{tab_from, sum, first}
use Rattle.line.specs.Bit.{bit_at}
use Rattle.crc.specs.Remainder.{step, after, check}
use Rattle.crc.specs.Striped.{read_as, striped}
use Rattle.e1.specs.Block.{block_check}
use Rattle.t1.specs.Superframe.{check_of}
use Rattle.signals.specs.Signalling.{aligns, first_in}
use Rattle.exchange.specs.Machine.{between, outside, locked, unstaged, host_refusal, host_after, key_refusal}
use Rattle.exchange.specs.Runs.{after_call, after_run}
use Rattle.claims.specs.Bench.{cases, holds, block_of, super_bit, Bench}

pub bench : Bench
unfolding cases holds block_of super_bit block_check check_of striped read_as check after step bit_at tab_from sum first after_run after_call
    host_refusal host_after key_refusal between outside locked unstaged first_in aligns
bench = refl
