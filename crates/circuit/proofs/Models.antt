-- Models that agree on their states meet the same demands: a path, and what is reached, is the same in both, state by state. Assumes nothing.
use Prim.Native.Nat.{ℕ, ◌<◌}
use mathlib.Core.Path.{sym, subst, ◌∙◌}
use mathlib.Core.List.{List, [], ◌∷◌}
use Rattle.ic3.specs.Model.{Model}
use Rattle.ic3.specs.Demands.{Reach, starts, steps, Leads, IsPath, Safe, Unsafe, HasStart, Doomed, Number}
use Rattle.circuit.specs.Agree.{Agree}

pub agree_sym : {M N : Model} → Agree M N → Agree N M
agree_sym A =
    record {
      size = sym A.size;
      start = λ s h. sym (A.start s (rw A.size h));
      step = λ s t h l. sym (A.step s t (rw A.size h) (rw A.size l));
      bad = λ s h. sym (A.bad s (rw A.size h));
    }

module _ (M N : Model) (A : Agree M N) where
  lt_agree : {s : ℕ} → s < M.size → s < N.size
  lt_agree {s} h = subst (λ (z : ℕ). s < z) A.size h

  leads_first : (s : ℕ) (xs : List ℕ) → Leads M s xs → s < M.size
  leads_first s [] p = p.0
  leads_first s (t ∷ xs) p = p.0

  leads_agree : (s : ℕ) (xs : List ℕ) → Leads M s xs → Leads N s xs
  leads_agree s [] p = (lt_agree p.0, sym (A.bad s p.0) ∙ p.1)
  leads_agree s (t ∷ xs) p =
      (lt_agree p.0, sym (A.step s t p.0 (leads_first t xs p.2)) ∙ p.1, leads_agree t xs p.2)

  pub path_agree : (xs : List ℕ) → IsPath M xs → IsPath N xs
  path_agree [] p = p
  path_agree (s ∷ xs) p = (sym (A.start s (leads_first s xs p.1)) ∙ p.0, leads_agree s xs p.1)

  reach_lt : {k s : ℕ} → Reach M k s → s < M.size
  reach_lt (starts h e) = h
  reach_lt (steps r h e) = h

  reach_agree : {k s : ℕ} → Reach M k s → Reach N k s
  reach_agree {s = s} (starts h e) = starts (lt_agree h) (sym (A.start s h) ∙ e)
  reach_agree {s = t} (steps {s = s} r h e) = steps (reach_agree r) (lt_agree h) (sym (A.step s t (reach_lt r) h) ∙ e)

  doomed_agree : (s : ℕ) → Doomed M s → Doomed N s
  doomed_agree s d =
      record {
        no_start = sym (A.start s (leads_first s d.onward d.leads)) ∙ d.no_start;
        onward = d.onward;
        leads = leads_agree s d.onward d.leads;
      }

-- what was shown of a model holds of one that agrees with it
pub safe_agree : (M N : Model) → Agree M N → (evidence : List ℕ) → Safe M evidence → Safe N evidence
safe_agree M N A evidence d =
    let B = agree_sym A in
    record {
      states = λ s e. lt_agree M N A (d.states s e);
      excludes = record {
        no_start = λ s h e. d.excludes.no_start s (lt_agree N M B h) (sym (B.start s h) ∙ e);
        all_bad = λ s h e. d.excludes.all_bad s (lt_agree N M B h) (sym (B.bad s h) ∙ e);
        closed = λ s t h l o e. d.excludes.closed s t (lt_agree N M B h) (lt_agree N M B l) o (sym (B.step s t h l) ∙ e);
      };
      never = λ k s r. B.bad s (reach_lt N M B r) ∙ d.never k s (reach_agree N M B r);
    }

pub unsafe_agree : (M N : Model) → Agree M N → (path : List ℕ) → Unsafe M path → Unsafe N path
unsafe_agree M N A path d =
    record {
      real = path_agree M N A path d.real;
      shortest = λ other p. d.shortest other (path_agree N M (agree_sym A) other p);
    }

pub start_agree : (M N : Model) → Agree M N → HasStart M → HasStart N
start_agree M N A d =
    record {
      state = d.state;
      inside = lt_agree M N A d.inside;
      starts = sym (A.start d.state d.inside) ∙ d.starts;
    }

-- the states that demand 3 counts are as many
pub number_agree : (M N : Model) → Agree M N → (m : ℕ) → Number (Doomed M) m → Number (Doomed N) m
number_agree M N A m n =
    record {
      those = n.those;
      distinct = n.distinct;
      exact = λ s. (
        λ e. doomed_agree M N A s ((n.exact s).0 e),
        λ d. (n.exact s).1 (doomed_agree N M (agree_sym A) s d),
      );
      many = n.many;
    }
