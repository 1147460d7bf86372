-- `aiger::import_as` meets its contract: the text is malformed, its header or a start value is refused, or what was kept is judged. Assumes nothing.
use mathlib.Core.Path.{◌≡◌, refl, sym, ◌∙◌}
use Prim.Native.Nat.{◌+◌}
use native.Mathlib.Omega.{arith}
use Rattle.base.specs.declared.Refusal.TheVariants.{StartValue}
use lib.ListN.{replicate}
use lib.Seq.{length-take-le}
use Rattle.std.proofs.lemmas.Result.{err_from_is_err_and}
use Rattle.base.specs.Numbers.{number_of}
use Rattle.base.proofs.Refusals.{number_not_none}
use Rattle.aiger.specs.Promise.{result_of}
use Rattle.aiger.specs.Inner.{no_row, most_rows, header_refusal}
use Rattle.aiger.proofs.Heading.{header_limits, number_21, number_28, header_number, refused, faulted, header_fault, header_other, line_other, header_fine, judged}
use Rattle.aiger.proofs.Keeping.{kept_held}
use Rattle.aiger.proofs.Meaning.{imports}
use Rattle.aiger.proofs.import_as.Goals as goal

pub returns-in_err-r : goal.returns-in_err-r
unfolding result_of
returns-in_err-r c =
    let p = err_from_is_err_and c.from_residual.result c.from_residual.ensures.1 in
    imports _ _ _ _ _ (rw (c.in_err-r.ensures.wrong _ refl, p.1, p.2))

pub too_few-requires : goal.too_few-requires
too_few-requires c = (c.in_ok-r.ensures.right _ refl).counted.small

pub returns-then-too_few : goal.returns-then-too_few
unfolding result_of
returns-then-too_few c =
    let kept = c.in_ok-r.ensures.right _ refl in
    let number = number_21 kept.counted _ _ _ (sym c.too_few.ensures ∙ c.if-too_few.true) in
    imports _ _ _ _ _ (rw kept.says (refused _ _ number.0 (omega arith) number.1 (rw (c.fault_of.ensures.refusal, c.fault_of.ensures.line))))

pub wrong_start-requires : goal.wrong_start-requires
wrong_start-requires c = (c.in_ok-r.ensures.right _ refl).counted.latches_again.1.within

pub overflow_add-line : goal.overflow_add-line
overflow_add-line c = omega (arith, (c.in_ok-r.ensures.right _ refl).counted.small.inputs)

pub overflow_add-line-in-Some : goal.overflow_add-line-in-Some
overflow_add-line-in-Some c =
    let small = (c.in_ok-r.ensures.right _ refl).counted.small in
    omega (arith, small.inputs, small.latches, c.in-Some.ensures.few _ refl)

pub returns-in-Some : goal.returns-in-Some
unfolding result_of
returns-in-Some c =
    let kept = c.in_ok-r.ensures.right _ refl in
    let wrong = c.in-Some.ensures.wrong _ refl c.in_ok-r.r.header kept.latches kept.counted.latches_again in
    let number = number_28 kept.counted _ _ _ (sym c.too_few.ensures ∙ c.if-too_few.false) _ wrong.0 wrong.1 in
    imports _ _ _ _ _
    (rw kept.says
    (faulted _ _ (record { refusal = StartValue; line = 2 + c.in_ok-r.r.header.inputs + c.in-Some.k }) number.0 number.1))

pub header_refusal-requires : goal.header_refusal-requires
header_refusal-requires c = (c.in_ok-r.ensures.right _ refl).counted.small

pub returns-in_err-map_err : goal.returns-in_err-map_err
unfolding result_of
returns-in_err-map_err c =
    let kept = c.in_ok-r.ensures.right _ refl in
    let p = err_from_is_err_and c.from_residual-in_err-map_err.result c.from_residual-in_err-map_err.ensures.1 in
    let f = header_fault c.header_refusal.result _ _ refl c.in_err-map_err.ensures.cases in
    let right = c.in_default.ensures.right refl c.in_ok-r.r.header kept.latches kept.counted.latches_again in
    let wrong : header_refusal c.in_ok-r.r.header ≡ 0 → ⊥ =
    λ e. number_not_none _ (sym f.0 ∙ (c.header_refusal.ensures ∙ e)) in
    let number = header_number kept.counted _ _ _ (sym c.too_few.ensures ∙ c.if-too_few.false)
    right wrong in
    let same : number_of c.in_err-map_err.field-0.0.refusal ≡ header_refusal c.in_ok-r.r.header = sym f.0 ∙ c.header_refusal.ensures in
    rw (p.1, p.2)
    (imports _ _ _ _ _ (rw kept.says (faulted _ _ c.in_err-map_err.field-0.0 (number.0 ∙ sym same)
    (line_other _ _ (λ e. header_other _ (sym same ∙ e)) ∙ sym f.1))))

pub overflow_add-count : goal.overflow_add-count
overflow_add-count c = let small = (c.in_ok-r.ensures.right _ refl).counted.small in omega (arith, small.inputs, small.latches)

pub overflow_add-count-2 : goal.overflow_add-count-2
overflow_add-count-2 c =
    let small = (c.in_ok-r.ensures.right _ refl).counted.small in
    omega (arith, small.inputs, small.latches, small.gates)

pub slice_bounds-rows-end : goal.slice_bounds-rows-end
slice_bounds-rows-end c =
    let fine = sym c.header_refusal.ensures ∙ header_fine c.header_refusal.result _ _ refl c.in_ok-map_err.ensures.cases in
    omega (arith, header_limits _ fine, c.read.ensures.same)

pub slice_bounds-judge-end : goal.slice_bounds-judge-end
slice_bounds-judge-end c =
    let fine = sym c.header_refusal.ensures ∙ header_fine c.header_refusal.result _ _ refl c.in_ok-map_err.ensures.cases in
    let limits = header_limits _ fine in
    sym (length-take-le _ _ (omega (arith, limits, c.read.ensures.same)))

pub judge-requires : goal.judge-requires
judge-requires c =
    let kept = c.in_ok-r.ensures.right _ refl in
    let right = c.in_default.ensures.right refl c.in_ok-r.r.header kept.latches kept.counted.latches_again in
    let fine = sym c.header_refusal.ensures ∙ header_fine c.header_refusal.result _ _ refl c.in_ok-map_err.ensures.cases in
    kept_held _ _ (replicate most_rows no_row) _ _ kept refl (sym c.too_few.ensures ∙ c.if-too_few.false) right fine

pub returns : goal.returns
unfolding result_of kept_held
returns c =
    let kept = c.in_ok-r.ensures.right _ refl in
    let right = c.in_default.ensures.right refl c.in_ok-r.r.header kept.latches kept.counted.latches_again in
    let fine = sym c.header_refusal.ensures ∙ header_fine c.header_refusal.result _ _ refl c.in_ok-map_err.ensures.cases in
    let held = kept_held _ _ (replicate most_rows no_row) _ _ kept refl (sym c.too_few.ensures ∙ c.if-too_few.false)
    right fine in
    imports _ _ _ _ _ (rw kept.says (judged _ _ _ c.judge.result _ (c.judge.ensures held) _ c.map_err-2.ensures.cases))
