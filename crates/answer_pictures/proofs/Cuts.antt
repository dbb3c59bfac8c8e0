-- The letters of a text that is cut.
use Rattle.std.proofs.Common.{◌≡◌, ◌≢◌, ℕ, zero, suc, ◌-◌, List, [], ◌∷◌, ◌++◌, refl, codes, arith}
use Rattle.answer_pictures.specs.Words.{cut_letters, escaped_letter}

cut_one : (room c : ℕ) (letters : List ℕ) → room ≢ 0 → cut_letters room (c ∷ letters) ≡ escaped_letter c ++ cut_letters (room - 1) letters
cut_one zero c letters some = absurd (some refl)
cut_one (suc n) c letters some = let one : suc n - 1 ≡ n = omega arith in rw one refl

-- a letter for which there is room
pub cut_step : (room c : ℕ) (all letters : List ℕ) → room ≢ 0 → all ≡ c ∷ letters
    → cut_letters room all ≡ escaped_letter c ++ cut_letters (room - 1) letters
cut_step room c all letters some is = rw is (cut_one room c letters some)

-- a letter for which there is none
pub cut_off : (room c : ℕ) (all letters : List ℕ) → room ≡ 0 → all ≡ c ∷ letters → cut_letters room all ≡ codes "..."
cut_off room c all letters none is = rw (none, is) refl

pub cut_end : (room : ℕ) (all : List ℕ) → all ≡ [] → cut_letters room all ≡ []
cut_end zero all is = rw is refl
cut_end (suc n) all is = rw is refl
