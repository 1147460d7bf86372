-- What the contracts of looks say of the code's own types, in terms of Reason. A mask is a word.
use Rattle.std.specs.Prelude.{ℕ, ◌-◌, ◌/◌, ◌%◌, ◌^◌, Bool}
use Rattle.masks.specs.Word.{width, word_of}
use Rattle.system.specs.System.{four_true}
use Rattle.system.specs.declared.Clause.{Clause}
use Rattle.look.specs.Reason.{Among, Setting, Reason, Forces}
use Rattle.look.specs.declared.Look.{Look}
use Rattle.look.specs.declared.Look.TheVariants.{Rest, Failed, Forced}
use Rattle.look.specs.declared.Settled.{Settled}

-- the setting that the code holds
abbrev pub setting : Settled → Setting
setting s = record { bits = word_of s.bits; values = word_of s.values }

-- the bits of the state are settled
abbrev pub StateSettled : Settled → Type 0
StateSettled s = Among (2 ^ 32 - 1) (setting s).bits

-- a clause is true of a word
unfoldable pub clause_of : Clause → ℕ → Bool
clause_of c w = four_true c.ones.pair c.zeros.pair c.ones.wires c.zeros.wires (w % 2 ^ 64) (w / 2 ^ 64)

-- what a look at clauses or excluded states may say
abbrev pub Scanned : (ℕ → Bool) → Settled → Look → Type 0
Scanned P s Rest = Unit {0}
Scanned P s (Failed reason) = Reason P (setting s) (word_of reason)
Scanned P s (Forced reason b value next) = Forces width P (setting s) (word_of reason) (word_of b) (word_of value)
