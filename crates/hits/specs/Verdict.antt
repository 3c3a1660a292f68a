-- Two hits on bits a and b of one block (KIT §3, and §15 for T1): what is said of them.
use Rattle.std.specs.Prelude.{if◌then◌else◌, ℕ, ◌-◌, ◌%◌, ◌||◌, eqb, leb}
use Rattle.crc.specs.Share.{share, distance}
use Rattle.hits.specs.declared.judge.Form.{Form}
use Rattle.hits.specs.declared.judge.Form.TheVariants.{E1, T1}
use Rattle.hits.specs.declared.judge.Verdict.{Verdict}
use Rattle.hits.specs.declared.judge.Verdict.TheVariants.{Outside, NoData, OneBit, Hidden, Seen}

-- of a block: how many bits, each how many-th is no data bit, after how many bits shares come round, how many bits a check has
pub record Numbers : Type 0 where
  pub bits : ℕ
  pub every : ℕ
  pub order : ℕ
  pub width : ℕ

-- blocks of T1, and of E1
abbrev pub numbers_of : Form → Numbers
numbers_of T1 = record { bits = 4632; every = 193; order = 63; width = 6 }
numbers_of E1 = record { bits = 2048; every = 512; order = 15; width = 4 }

-- what bit i adds to the check of its block
abbrev pub share_of : Form → ℕ → ℕ
share_of k i = share (numbers_of k).width ((numbers_of k).bits - 1 - i)

-- hits are hidden where both bits add the same
unfoldable pub verdict : Form → ℕ → ℕ → Verdict
verdict k a b =
    if leb (numbers_of k).bits a || leb (numbers_of k).bits b then Outside
    else if eqb (a % (numbers_of k).every) 0 then NoData a
    else if eqb (b % (numbers_of k).every) 0 then NoData b
    else if eqb a b then OneBit a
    else if eqb (share_of k a) (share_of k b) then Hidden (distance a b)
    else Seen (distance a b)
