-- The lists of a circuit that is not refused stand in front of the stores, so the system there is the circuit's, which has its own start states,
-- steps and bad states. Assumes nothing.
use Prim.Native.Nat.{ℕ, zero, suc}
use mathlib.Core.Bool.{Bool}
use mathlib.Core.List.{List}
use mathlib.Core.Path.{◌≡◌, refl, sym, ap, ◌∙◌}
use native.Mathlib.Omega.{arith}
use lib.ListN.{length}
use Rattle.base.proofs.Tests.{clash}
use Rattle.stores.specs.Lists.{Lists, filled}
use Rattle.stores.proofs.Over.{over_front}
use Rattle.ic3.specs.Demands.{listed}
use Rattle.circuit.specs.Circuit.{Circuit}
use Rattle.circuit.specs.Import.{imported, import_refusal}
use Rattle.circuit.proofs.Main.{import_right, import_paths}
use Rattle.aiger.specs.Text.{first_edition, newer_edition, Told, malformed, told, tells}
use Rattle.aiger.specs.Promise.{Result, Report, entered, imported_as, result_of, system_in, Imports}
use Rattle.aiger.proofs.Cut.{line_most}
use Rattle.aiger.proofs.First.{readers_agree}

-- what was entered is read back
pub entered_system : (c : Circuit) (lent : Lists) (i : Report) (after : Lists)
    → ◌≡◌ {A = Result} (record { import = i; after = after }) (entered (imported c) lent) → system_in i after ≡ imported c
unfolding entered filled
entered_system c lent i after e =
    rw (ap (λ (x : Result). x.import) e, ap (λ (x : Result). x.after) e)
    (rw (over_front _ (imported c).start _ refl, over_front _ (imported c).step _ refl, over_front _ (imported c).bad _ refl))

module _ (newer : Bool) (text : List ℕ) (lent : Lists) (i : Report) (after : Lists)
    (e : ◌≡◌ {A = Result} (record { import = i; after = after }) (result_of lent (tells newer text))) where
  abbrev number : ℕ → Circuit → ℕ
  number m c = import_refusal m c (length lent.start) (length lent.step) (length lent.bad)

  -- with the number 0 a circuit is not refused
  accepted : (m : ℕ) (c : Circuit) → tells newer text ≡ told m c → i.number ≡ 0 → (number m c ≡ 0) × (system_in i after ≡ imported c)
  unfolding result_of imported_as
  accepted m c t z = pick (number m c) refl
    where
      whole : ◌≡◌ {A = Result} (record { import = i; after = after }) (imported_as lent c (number m c))
      whole = e ∙ ap (result_of lent) t

      pick : (n : ℕ) → number m c ≡ n → (number m c ≡ 0) × (system_in i after ≡ imported c)
      pick zero f = (f, entered_system c lent i after (whole ∙ ap (imported_as lent c) f))
      pick (suc n) f = absurd (omega (arith, z, ap (λ (x : Result). x.import.number) (whole ∙ ap (imported_as lent c) f)))

  pub imports : Imports newer text lent i after
  imports =
      record {
        equation = e;
        right = λ m c t z. let p = accepted m c t z in rw p.1 (import_right m c _ _ _ p.0);
        paths = λ m c t z. let p = accepted m c t z in rw p.1 (import_paths m c _ _ _ p.0);
        first = λ m c t. e ∙ ap (result_of lent) (readers_agree text m c t newer);
      }

-- "The two readers agree on every text that the first accepts: system, counts, stores."
pub readers_alike : (text : List ℕ) (lent : Lists) {i j : Report} {a b : Lists} → Imports first_edition text lent i a
    → Imports newer_edition text lent j b → i.number ≡ 0
    → ◌≡◌ {A = Result} (record { import = i; after = a }) (record { import = j; after = b })
unfolding result_of listed
readers_alike text lent {i} {j} {a} {b} p q z = pick (tells first_edition text) refl
  where
    pick : (w : Told) → tells first_edition text ≡ w → ◌≡◌ {A = Result} (record { import = i; after = a }) (record { import = j; after = b })
    pick (told m c) e = p.equation ∙ sym (q.first m c e)
    pick (malformed number line) e =
        let none : number ≡ 0 = sym (ap (λ (x : Result). x.import.number) (p.equation ∙ ap (result_of lent) e)) ∙ z in
        clash (line_most first_edition text number line e).0 (rw none)
