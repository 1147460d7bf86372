-- What the engine is asked, in terms of words: the least state whose pair fulfils a condition with some setting of the wires.
use Rattle.std.specs.Prelude.{ℕ, ◌+◌, ◌*◌, ◌%◌, ◌^◌, min, ◌≤◌, Bool, ◌&&◌, ◌≡◌}
use Rattle.std.proofs.Math.Option.{Option}
use Rattle.masks.specs.Bit.{somewhere}
use Rattle.ic3.specs.Model.{least}
use Rattle.look.specs.Condition.{Condition, fulfils}
use Rattle.question.specs.Question.{not_below}

-- some setting of w wires makes the pair p fulfil the condition
unfoldable pub somehow : ℕ → Condition → ℕ → Bool
somehow w c p = somewhere (2 ^ min w 64) (λ x. fulfils c (x * 2 ^ 64 + p))

-- the least state below `end`, and not below `from`, whose pair, with t one step later, fulfils the condition somehow
unfoldable pub asked_in : ℕ → ℕ → ℕ → Condition → ℕ → Option ℕ
asked_in from end w c t = least end (λ s. not_below from s && somehow w c (s + 2 ^ 32 * (t % 2 ^ 32)))

-- the question as the engine asks it
abbrev pub asked : ℕ → ℕ → Condition → ℕ → ℕ → Option ℕ
asked n w c t from = asked_in from (2 ^ min n 32) w c t

-- A block: the 2^k states from `at` on. They have the bits of `at` from position k on, and below it any.
pub record Block (n at k : ℕ) : Type 0 where
  pub whole : at % 2 ^ k ≡ 0
  pub low : k ≤ min n 32
  pub ends : at + 2 ^ k ≤ 2 ^ min n 32
