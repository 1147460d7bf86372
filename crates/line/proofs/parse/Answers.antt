-- `line::parse` meets its contract: its tests are those of the definition, in the order of the refusals, on the frame that is read by index.
-- Assumes nothing.
use Prim.Native.Nat.{◌+◌}
use mathlib.Core.Path.{refl, sym, ◌∙◌}
use native.Mathlib.Omega.{arith}
use Rattle.line.proofs.Placing.{place_listed, width_most, length_size, length_count, length_clause}
use Rattle.line.proofs.Numbers.{number_two}
use Rattle.line.proofs.Saying.{Right, number_within, sum_wrong, place_wrong, length_wrong, right_at, size_said, count_said, clause_said}
use Rattle.line.proofs.parse.Goals as goal
use Rattle.line.proofs.parse.Goals.{Else-count-length_for}

-- behind the last test that refuses: a frame whose sum, kind and length are right
right : (c : Else-count-length_for) → Right c.args.line.now c.in-Some.count c.args.stage c.byte_at-kind.result
right c =
    right_at _ _ _ c.in-Some.ensures c.sum_of.ensures c.if-sum_of-ne0.false
    c.byte_at-kind.ensures c.in_place.ensures c.if-not-in_place.false c.length_for.ensures c.if-count-length_for.false

pub returns-then-sum_of-ne0 : goal.returns-then-sum_of-ne0
returns-then-sum_of-ne0 c =
    sum_wrong _ _ _ c.in-Some.ensures c.sum_of.ensures c.if-sum_of-ne0.true

pub returns-then-not-in_place : goal.returns-then-not-in_place
returns-then-not-in_place c =
    place_wrong _ _ _ c.in-Some.ensures c.sum_of.ensures c.if-sum_of-ne0.false
    c.byte_at-kind.ensures c.in_place.ensures c.if-not-in_place.true

pub returns-then-count-length_for : goal.returns-then-count-length_for
returns-then-count-length_for c =
    length_wrong _ _ _ c.in-Some.ensures c.sum_of.ensures c.if-sum_of-ne0.false
    c.byte_at-kind.ensures c.in_place.ensures c.if-not-in_place.false c.length_for.ensures c.if-count-length_for.true

pub byte_at-requires : goal.byte_at-requires
byte_at-requires c = omega (arith, length_size _ c.if-kind-eq0.true, c.in-Some.ensures.within)

pub returns-then-kind-eq0 : goal.returns-then-kind-eq0
returns-then-kind-eq0 c = size_said (right (goal.at.returns-then-kind-eq0 c).Else-count-length_for) c.if-kind-eq0.true c.byte_at.ensures

pub number_at-requires : goal.number_at-requires
number_at-requires c = number_within _ _ c.in-Some.ensures 1 2 refl (omega (arith, length_count _ c.if-kind-eq15.true)) (omega arith)

pub overflow_cast-result : goal.overflow_cast-result
overflow_cast-result c =
    let within = number_within _ _ c.in-Some.ensures 1 2 refl (omega (arith, length_count _ c.if-kind-eq15.true)) (omega arith) in
    record { fits = omega (arith, number_two _ _ within c.number_at.ensures) }

pub returns-then-kind-eq15 : goal.returns-then-kind-eq15
returns-then-kind-eq15 c = count_said (right (goal.at.returns-then-kind-eq15 c).Else-count-length_for) c.if-kind-eq15.true c.number_at.ensures

pub list_of-requires : goal.list_of-requires
list_of-requires c =
    (omega (arith, c.if-kind-eq0.false), place_listed _ c.args.stage (sym c.in_place.ensures ∙ c.if-not-in_place.false) c.if-kind-eq0.false c.if-kind-eq15.false)

pub number_at-requires-2 : goal.number_at-requires-2
number_at-requires-2 c =
    number_within _ _ c.in-Some.ensures 1 _ refl
    (omega (arith, length_clause _ c.if-kind-eq0.false c.if-kind-eq15.false, c.mask_width-width.ensures))
    (width_most _ c.mask_width-width.ensures)

pub overflow_mul-width : goal.overflow_mul-width
overflow_mul-width c = record { fits = omega (arith, width_most _ c.mask_width-width.ensures) }

pub overflow_add-width : goal.overflow_add-width
overflow_add-width c = record { fits = omega (arith, width_most _ c.mask_width-width.ensures) }

pub number_at-requires-3 : goal.number_at-requires-3
number_at-requires-3 c =
    number_within _ _ c.in-Some.ensures (1 + c.mask_width-width.result) _ (omega arith)
    (omega (arith, length_clause _ c.if-kind-eq0.false c.if-kind-eq15.false, c.mask_width-width.ensures))
    (width_most _ c.mask_width-width.ensures)

pub returns : goal.returns
returns c =
    rw c.list_of.ensures
    (clause_said (right (goal.at.returns c).Else-count-length_for) c.if-kind-eq0.false c.if-kind-eq15.false c.mask_width-width.ensures
    c.number_at-2.ensures c.number_at-3.ensures)
