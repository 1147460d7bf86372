-- The refusals that come before the rows are judged: 21, a wrong start value, and what is read off the header. The rows are counted, so the circuit's
-- counts are the header's. Assumes nothing.
use Prim.Native.Nat.{ℕ, zero, suc, ◌+◌, ◌≤◌}
use mathlib.Core.Bool.{Bool, true, false, ◌||◌}
use mathlib.Core.List.{List}
use mathlib.Core.Path.{◌≡◌, refl, sym, ap, ◌∙◌}
use native.Mathlib.Omega.{arith}
use borrow.Author.Tests.{ltb-false}
use lib.Dec.{eqb, ltb}
use lib.ListN.{length}
use mathlib.Core.Logic.{⊎_elim}
use native.Mathlib.Nat.{eq-zero-or-pos}
use Rattle.std.specs.Prelude.{Result, Ok, Err, MatchResult, IsErrAnd}
use Rattle.base.specs.Numbers.{number_of, code_of}
use Rattle.base.specs.Refusals.{◌if◌, ◌else◌}
use Rattle.base.specs.declared.Fault.{Fault}
use Rattle.base.specs.declared.Refusal.{Refusal}
use Rattle.base.specs.declared.Refusal.TheVariants.{Size, Masks, Bits, Stores, Evidence, Digits, Sum, Kind, Length, Room, Count, Form, TooFew, Latches, Wires, Variables, Loop, Watched, Justice, StartValue, Given, Store, ClauseStore}
use Rattle.base.proofs.Refusals.{else_none, if_none, number_not_none}
use Rattle.masks.proofs.Somewhere.{or_fails}
use Rattle.stores.specs.Lists.{Lists}
use Rattle.circuit.specs.Circuit.{Circuit, any}
use Rattle.circuit.specs.Refusals.{wrong_start, right_starts, circuit_refusal}
use Rattle.circuit.specs.Import.{import_refusal}
use Rattle.aiger.specs.Text.{firsts, latches_of, circuit_of}
use Rattle.aiger.specs.Inner.{Limits, Counted, too_few, header_refusal, header_line, FaultOf, Judged}
use Rattle.aiger.specs.Promise as promise
use Rattle.aiger.specs.Promise.{Report, report_of, refused_at, line_for, imported_as}
use Rattle.aiger.specs.declared.Imported.{Imported}
use Rattle.aiger.specs.declared.read.Header.{Header}
use Rattle.aiger.specs.declared.read.Reading.{Reading}
use Rattle.aiger.proofs.Threes.{latches_many, gates_many, length_threes}

-- ---- a header that is not refused
module _ (h : Header) (e : header_refusal h ≡ 0) where
  pub header_tests : ((eqb h.latches 0 || ltb 32 h.latches) ≡ false) × (ltb 64 (h.inputs + h.gates) ≡ false)
  unfolding header_refusal
  header_tests = let p = else_none _ _ e in (if_none 21 _ p.0, if_none 22 _ p.1)

  pub header_limits : Limits h
  header_limits =
      record {
        latches = ltb-false 32 h.latches ((or_fails (eqb h.latches 0) (ltb 32 h.latches)).0 header_tests.0).1;
        wires = ltb-false 64 (h.inputs + h.gates) header_tests.1;
      }

pub header_other : (h : Header) → header_refusal h ≡ 28 → ⊥
unfolding header_refusal
header_other h e = pick (eqb h.latches 0 || ltb 32 h.latches) (ltb 64 (h.inputs + h.gates)) e
  where
    pick : (q s : Bool) → (22 if q else 23 if s) ≡ 28 → ⊥
    pick true s f = omega arith
    pick false true f = omega arith
    pick false false f = omega arith

-- ---- the counts are the header's
module _ {text : List ℕ} {r : Reading} {inputs latches singles gates : List ℕ} (k : Counted text r inputs latches singles gates) where
  abbrev c : Circuit
  c = circuit_of r.header inputs latches singles gates

  pub counted_latches : length c.latches ≡ r.header.latches
  unfolding circuit_of
  counted_latches = omega (arith, latches_many latches, k.many_latches)

  pub counted_inputs : length c.inputs ≡ r.header.inputs
  unfolding circuit_of
  counted_inputs = length_threes _ inputs ∙ omega (arith, k.many_inputs)

  pub counted_gates : length c.gates ≡ r.header.gates
  unfolding circuit_of
  counted_gates = omega (arith, gates_many gates, k.many_gates)

  pub counted_singles : length (firsts singles) ≡ r.header.outputs + r.header.bads + r.header.constraints
  counted_singles = length_threes _ singles ∙ omega (arith, k.many_singles)

  -- the first refusals, each where those before it are not given: the number, and its line
  module _ (a b d : ℕ) where
    abbrev refusal : ℕ
    refusal = import_refusal r.header.m c a b d

    pub number_21 : too_few r.header ≡ true → (refusal ≡ 21) × (line_for c 21 ≡ 1)
    unfolding import_refusal circuit_refusal too_few line_for
    number_21 e = (rw (counted_inputs, counted_latches, counted_gates) (rw e), refl)

    module _ (enough : too_few r.header ≡ false) where
      pub number_28 : (right : ℕ) → any wrong_start (latches_of latches) ≡ true → right ≡ right_starts (latches_of latches)
          → (refusal ≡ 28) × (line_for c 28 ≡ 2 + r.header.inputs + right)
      unfolding import_refusal circuit_refusal too_few line_for circuit_of
      number_28 right wrong e = (
        rw (counted_inputs, counted_latches, counted_gates) (rw (enough, wrong)),
        ap (λ (n : ℕ). 2 + n + right_starts (latches_of latches)) counted_inputs ∙ rw e,
      )

      pub header_number : any wrong_start (latches_of latches) ≡ false → (header_refusal r.header ≡ 0 → ⊥)
          → (refusal ≡ header_refusal r.header) × (line_for c (header_refusal r.header) ≡ 1)
      unfolding import_refusal circuit_refusal header_refusal too_few line_for circuit_of
      header_number right f =
          let t = first (eqb r.header.latches 0 || ltb 32 r.header.latches) (ltb 64 (r.header.inputs + r.header.gates)) _ _ f in
          (rw (counted_inputs, counted_latches, counted_gates) (rw (enough, right) t.0), t.1)
        where
          first : (q s : Bool) (x y : ℕ) → ((22 if q else 23 if s) ≡ 0 → ⊥)
              → (((22 if q else 23 if s else x) else y) ≡ (22 if q else 23 if s)) × (line_for c (22 if q else 23 if s) ≡ 1)
          first true s x y f = (refl, refl)
          first false true x y f = (refl, refl)
          first false false x y f = absurd (f refl)

-- ---- a refusal leaves the stores alone
pub refused : (lent : Lists) (c : Circuit) {number k line : ℕ} {i : Report} → number ≡ k → 1 ≤ k → line_for c k ≡ line → i ≡ refused_at k line
    → ◌≡◌ {A = promise.Result} (record { import = i; after = lent }) (imported_as lent c number)
unfolding imported_as
refused lent c {k = zero} e p l q = absurd (omega arith)
refused lent c {k = suc k} e p l q = rw (e, l, q)

pub faulted : (lent : Lists) (c : Circuit) {number : ℕ} (f : Fault) → number ≡ number_of f.refusal → line_for c (number_of f.refusal) ≡ f.line
    → ◌≡◌ {A = promise.Result} (record { import = report_of (Err f); after = lent }) (imported_as lent c number)
faulted lent c f e l =
    refused lent c e (⊎_elim (λ z. absurd (number_not_none f.refusal z)) (λ p. p) (eq-zero-or-pos (number_of f.refusal))) l refl

-- a refusal that a start value is not the reason of has the header's line, or none
pub line_other : (c : Circuit) (r : Refusal) → (number_of r ≡ 28 → ⊥) → line_for c (number_of r) ≡ header_line r
unfolding line_for
line_other c Size f = refl
line_other c Masks f = refl
line_other c Bits f = refl
line_other c Stores f = refl
line_other c Evidence f = refl
line_other c Digits f = refl
line_other c Sum f = refl
line_other c Kind f = refl
line_other c Length f = refl
line_other c Room f = refl
line_other c Count f = refl
line_other c Form f = refl
line_other c TooFew f = refl
line_other c Latches f = refl
line_other c Wires f = refl
line_other c Variables f = refl
line_other c Loop f = refl
line_other c Watched f = refl
line_other c Justice f = refl
line_other c StartValue f = absurd (f refl)
line_other c Given f = refl
line_other c Store f = refl
line_other c ClauseStore f = refl

-- ---- a refusal gets its line
pub header_fault : (q : Result Unit Refusal) (f : Fault) (r : Result Unit Fault) → r ≡ Err f → MatchResult q (λ x. r ≡ Ok x) (λ e. IsErrAnd r (FaultOf e))
    → (code_of q ≡ number_of f.refusal) × (f.line ≡ header_line f.refusal)
header_fault (Ok x) f r g m = cc
header_fault (Err e) f (Ok x) g m = absurd m
header_fault (Err e) f (Err f') g m =
    let same : f' ≡ f = cc in
    rw (← same) (ap number_of (sym m.refusal), m.line ∙ ap header_line (sym m.refusal))

pub header_fine : (q : Result Unit Refusal) (u : Unit) (r : Result Unit Fault) → r ≡ Ok u → MatchResult q (λ x. r ≡ Ok x) (λ e. IsErrAnd r (FaultOf e))
    → code_of q ≡ 0
header_fine (Ok x) u r g m = refl
header_fine (Err e) u (Ok x) g m = absurd m
header_fine (Err e) u (Err f) g m = cc

pub judged : (lent : Lists) (c : Circuit) (number : ℕ) (q : Result Imported Refusal) (after : Lists) → Judged lent c number q after
    → (r : Result Imported Fault) → MatchResult q (λ i. r ≡ Ok i) (λ e. IsErrAnd r (FaultOf e))
    → ◌≡◌ {A = promise.Result} (record { import = report_of r; after = after }) (imported_as lent c number)
unfolding imported_as
judged lent c number (Ok i) after j r m = rw (m, j.0) j.1
judged lent c number (Err e) after j (Ok i) m = absurd m
judged lent c number (Err e) after j (Err f) m =
    rw j.2
    (faulted lent c f (j.0 ∙ ap number_of (sym m.refusal)) (ap (λ (x : Refusal). line_for c (number_of x)) m.refusal ∙ (line_other c e j.1 ∙ sym m.line)))
