-- A text that is packed piece by piece is packed as a whole.
use Rattle.std.proofs.Common.{◌≡◌, ℕ, ◌+◌, ◌<◌, List, [], ◌∷◌, ◌++◌, length, get_or, take, refl, sym, ap, ◌∙◌}
use Rattle.std.proofs.lemmas.List.{append_assoc, take_more}
use Rattle.std.specs.Int.{w32, from_le_bytes}
use Rattle.image_layout.specs.Spelling.{text_words}
use Rattle.image_writer.specs.Packing.{full_words, rest_of}

-- what the bytes fill stays, and what waits goes before the next bytes
pub full_words-append : (xs ys : List ℕ) → full_words (xs ++ ys) ≡ full_words xs ++ full_words (rest_of xs ++ ys)
full_words-append [] ys = refl
full_words-append (a ∷ []) ys = refl
full_words-append (a ∷ b ∷ []) ys = refl
full_words-append (a ∷ b ∷ c ∷ []) ys = refl
full_words-append (a ∷ b ∷ c ∷ d ∷ rest) ys = ap (λ (ws : List ℕ). from_le_bytes w32 (a ∷ b ∷ c ∷ d ∷ []) ∷ ws) (full_words-append rest ys)

pub rest_of-append : (xs ys : List ℕ) → rest_of (xs ++ ys) ≡ rest_of (rest_of xs ++ ys)
rest_of-append [] ys = refl
rest_of-append (a ∷ []) ys = refl
rest_of-append (a ∷ b ∷ []) ys = refl
rest_of-append (a ∷ b ∷ c ∷ []) ys = refl
rest_of-append (a ∷ b ∷ c ∷ d ∷ rest) ys = rest_of-append rest ys

-- the words of a text are those that its bytes fill, and the one of those that wait
pub text_words-parts : (xs : List ℕ) → text_words xs ≡ full_words xs ++ text_words (rest_of xs)
unfolding text_words
text_words-parts [] = refl
text_words-parts (a ∷ []) = refl
text_words-parts (a ∷ b ∷ []) = refl
text_words-parts (a ∷ b ∷ c ∷ []) = refl
text_words-parts (a ∷ b ∷ c ∷ d ∷ rest) = ap (λ (ws : List ℕ). from_le_bytes w32 (a ∷ b ∷ c ∷ d ∷ []) ∷ ws) (text_words-parts rest)

-- a piece more, behind those whose words are written
pub written_more : (start words seen waiting piece : List ℕ) → words ≡ start ++ full_words seen → waiting ≡ rest_of seen
    → words ++ full_words (waiting ++ piece) ≡ start ++ full_words (seen ++ piece)
written_more start words seen waiting piece written rest =
    ap (λ (ws : List ℕ). ws ++ full_words (waiting ++ piece)) written
    ∙ append_assoc start (full_words seen) (full_words (waiting ++ piece))
    ∙ ap (λ (bytes : List ℕ). start ++ (full_words seen ++ full_words (bytes ++ piece))) rest
    ∙ ap (λ (ws : List ℕ). start ++ ws) (sym (full_words-append seen piece))

pub rest_more : (seen waiting piece : List ℕ) → waiting ≡ rest_of seen → rest_of (waiting ++ piece) ≡ rest_of (seen ++ piece)
rest_more seen waiting piece rest = ap (λ (bytes : List ℕ). rest_of (bytes ++ piece)) rest ∙ sym (rest_of-append seen piece)

-- behind the last piece the bytes that wait fill a word
pub finished : (start words seen waiting : List ℕ) → words ≡ start ++ full_words seen → waiting ≡ rest_of seen
    → words ++ text_words waiting ≡ start ++ text_words seen
finished start words seen waiting written rest =
    ap (λ (ws : List ℕ). ws ++ text_words waiting) written
    ∙ append_assoc start (full_words seen) (text_words waiting)
    ∙ ap (λ (bytes : List ℕ). start ++ (full_words seen ++ text_words bytes)) rest
    ∙ ap (λ (ws : List ℕ). start ++ ws) (sym (text_words-parts seen))

-- a byte more of a piece
pub byte_more : (front bytes : List ℕ) (i : ℕ) → i < length bytes → (front ++ take i bytes) ++ get_or bytes i 0 ∷ [] ≡ front ++ take (i + 1) bytes
byte_more front bytes i lt =
    append_assoc front (take i bytes) (get_or bytes i 0 ∷ []) ∙ ap (λ (t : List ℕ). front ++ t) (sym (take_more bytes i 0 lt))
