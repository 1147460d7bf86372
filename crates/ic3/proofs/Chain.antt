-- Chain meets the exact bound, with full rounds and with shortened ones: its three doomed states are listed, and the searches are computed. Assumes
-- nothing.
use Prim.Native.Nat.{ℕ, zero, suc, ◌<◌}
use mathlib.Core.Bool.{true, false}
use mathlib.Core.List.{[], ◌∷◌}
use mathlib.Core.Path.{◌≡◌, refl, sym, ◌∙◌}
use native.Mathlib.Omega.{arith}
use Rattle.base.proofs.Tests.{clash}
use Rattle.ic3.specs.Model.{least}
use Rattle.ic3.specs.Search.{level_of, put, states, R, wanted, judge, Rounds, full, shortened, goes_on, round, settled, tested, found, deeper, fits, kept, react, next, search_from, begun, searched}
use Rattle.ic3.specs.Demands.{listed, Doomed, Number}
use Rattle.ic3.specs.Exact.{chain, up_to, Met}
use Rattle.ic3.proofs.Store.{listed_other}
use Rattle.ic3.proofs.Frames.{leads_state}

chain_number : Number (Doomed chain) 3
unfolding listed
chain_number =
    record {
      those = 3 ∷ (1 ∷ (2 ∷ []));
      distinct = (refl, (refl, (refl, tt)));
      exact = λ s. (inside s, λ d. outside s (leads_state chain s d.onward d.leads) d.no_start);
      many = refl;
    }
  where
    inside : (s : ℕ) → listed (3 ∷ (1 ∷ (2 ∷ []))) s ≡ true → Doomed chain s
    inside zero e = clash refl (sym e)
    inside (suc zero) e = record { no_start = refl; onward = 3 ∷ []; leads = (omega arith, refl, (omega arith, refl)) }
    inside (suc (suc zero)) e =
        record { no_start = refl; onward = 1 ∷ (3 ∷ []); leads = (omega arith, refl, (omega arith, refl, (omega arith, refl))) }
    inside (suc (suc (suc zero))) e = record { no_start = refl; onward = []; leads = (omega arith, refl) }
    inside (suc (suc (suc (suc s)))) e =
        clash e
        (listed_other (1 ∷ (2 ∷ [])) 3 (suc (suc (suc (suc s)))) (λ q. omega arith)
        ∙ listed_other (2 ∷ []) 1 (suc (suc (suc (suc s)))) (λ q. omega arith)
        ∙ listed_other [] 2 (suc (suc (suc (suc s)))) (λ q. omega arith))

    outside : (s : ℕ) → s < 4 → chain.start s ≡ false → listed (3 ∷ (1 ∷ (2 ∷ []))) s ≡ true
    outside zero h e = clash refl e
    outside (suc zero) h e = refl
    outside (suc (suc zero)) h e = refl
    outside (suc (suc (suc zero))) h e = refl
    outside (suc (suc (suc (suc s)))) h e = absurd (omega arith)

pub chain_meets : (r : Rounds) → Met r
unfolding searched begun search_from next react found deeper fits kept settled tested round goes_on judge wanted R least level_of put states up_to
chain_meets full = record { m = chain_number; evidence = refl; asked = refl; most = refl }
chain_meets shortened = record { m = chain_number; evidence = refl; asked = refl; most = refl }
