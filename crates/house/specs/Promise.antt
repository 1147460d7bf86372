-- What reading promises: the answer, and the last content of each lent store, for every text and every store.
use Rattle.std.specs.Prelude.{ℕ, List, [], ◌≡◌, length}
use Rattle.stores.specs.Lists.{Lists, filled}
use Rattle.house.specs.File.{Rooms, Said, file, refused, said}

abbrev pub rooms_of : Lists → Rooms
rooms_of l = record { start = length l.start; step = length l.step; bad = length l.bad }

-- n and the counts of masks with the number 0 and no line; or a refusal and its line, with nothing else
pub record Report : Type 0 where
  pub number : ℕ
  pub line : ℕ
  pub n : ℕ
  pub start : ℕ
  pub step : ℕ
  pub bad : ℕ

pub record Result : Type 0 where
  pub house : Report
  pub after : Lists

-- After a refusal the stores are all zero; else all behind each list is zero.
unfoldable pub result_of : Lists → Said → Result
result_of l (file r) =
    record {
      house = record { number = 0; line = 0; n = r.n; start = length r.start; step = length r.step; bad = length r.bad };
      after = filled l r.start r.step r.bad;
    }
result_of l (refused number line) =
    record { house = record { number = number; line = line; n = 0; start = 0; step = 0; bad = 0 }; after = filled l [] [] [] }

-- THE PROMISE: an equation, so that two results agree
pub record Reads (text : List ℕ) (lent : Lists) (house : Report) (after : Lists) : Type 0 where
  pub equation : ◌≡◌ {A = Result} (record { house = house; after = after }) (result_of lent (said (rooms_of lent) text))
