-- A line of words that grows, word by word.
use Rattle.std.proofs.Common.{◌≡◌, ◌≤◌, ◌++◌, ◌∙◌, ◌∷◌, ℕ, Bool, Global, List, [], Option, ap, ap₂, append_assoc, arith, codes, drop, false, length, map}
use Rattle.std.proofs.Common.{refl, string_bytes, sym, true}
use Rattle.std.specs.Prelude.{String, if◌then◌else◌, option_map, slice_get, unwrap_or}
use Rattle.std.specs.Str.{bytes_eq}
use Rattle.std.proofs.lemmas.Bool.{true≢false}
use Rattle.std.proofs.lemmas.List.{at_drop_all, map-append}
use Rattle.std.proofs.lemmas.Option.{slice_get-map}
use Rattle.clap.specs.Words.{Text}
use Rattle.command_line.specs.Joining.{is_stop_id, joined, joined_from, line_of}

pub chosen : {Z : Type 0} (test : Bool) (x y : Z) → test ≡ true → x ≡ (if test then x else y)
chosen true x y is = refl
chosen false x y is = absurd (true≢false (sym is))

pub left : {Z : Type 0} (test : Bool) (x y : Z) → test ≡ false → y ≡ (if test then x else y)
left true x y is = absurd (true≢false is)
left false x y is = refl

-- the first word
pub first_word : {X : Type 0} (text : X → Text) (xs : List X) (o : Option X) → o ≡ slice_get xs 0
    → unwrap_or (option_map text o) [] ≡ unwrap_or (slice_get (map text xs) 0) []
first_word {X} text xs o is = ap (λ (x : Option X). unwrap_or (option_map text x) []) is
    ∙ ap (λ (t : Option Text). unwrap_or t []) (sym (slice_get-map text xs 0))

-- a stop_id more
pub value_more : (done : List Text) (command last longer word : Text) → longer ≡ (last ++ 61 ∷ []) ++ word → is_stop_id command last word ≡ true
    → (rest : List Text) → line_of done command longer rest ≡ line_of done command last (word ∷ rest)
unfolding joined_from
value_more done command last longer word is test rest =
    ap (λ (t : Text). line_of done command t rest) (is ∙ append_assoc last (61 ∷ []) word)
    ∙ ap (λ (ws : List Text). done ++ ws) (chosen (is_stop_id command last word) (joined_from command (last ++ 61 ∷ word) rest)
    (last ∷ joined_from (if bytes_eq word (codes "--") then [] else command) word rest) test)

-- another word more
pub word_more : (done more : List (String Global)) (old last : String Global) (command now word : Text) → more ≡ done ++ old ∷ []
    → string_bytes last ≡ word → now ≡ (if bytes_eq word (codes "--") then [] else command) → is_stop_id command (string_bytes old) word ≡ false
    → (rest : List Text) → line_of (map string_bytes more) now (string_bytes last) rest
    ≡ line_of (map string_bytes done) command (string_bytes old) (word ∷ rest)
unfolding joined_from
word_more done more old last command now word more_is last_is now_is test rest =
    ap (λ (ws : List Text). line_of ws now (string_bytes last) rest) (ap (map string_bytes) more_is ∙ map-append string_bytes done (old ∷ []))
    ∙ ap₂ (λ (c : Text) (w : Text). line_of (map string_bytes done ++ string_bytes old ∷ []) c w rest) now_is last_is
    ∙ append_assoc (map string_bytes done) (string_bytes old ∷ []) (joined_from (if bytes_eq word (codes "--") then [] else command) word rest)
    ∙ ap (λ (ws : List Text). map string_bytes done ++ ws) (left (is_stop_id command (string_bytes old) word)
    (joined_from command (string_bytes old ++ 61 ∷ word) rest)
    (string_bytes old ∷ joined_from (if bytes_eq word (codes "--") then [] else command) word rest) test)

module _ {X : Type 0} (text : X → Text) where
  -- no words
  pub no_words : (words : List X) (line : List (String Global)) → length words ≡ 0 → line ≡ [] → map string_bytes line ≡ joined (map text words)
  unfolding joined
  no_words [] line none is = ap (map string_bytes) is
  no_words (word ∷ words) line none is = absurd (omega arith)

  -- the program's name
  pub line_begun : (words rest : List X) (program : X) (done : List (String Global)) (last : String Global) (command : Text) → words ≡ program ∷ rest
      → done ≡ [] → string_bytes last ≡ text program → command ≡ unwrap_or (slice_get (map text rest) 0) []
      → line_of (map string_bytes done) command (string_bytes last) (map text (drop 0 rest)) ≡ joined (map text words)
  unfolding joined
  line_begun words rest program done last command words_are none last_is command_is =
      ap (λ (d : List (String Global)). line_of (map string_bytes d) command (string_bytes last) (map text rest)) none
      ∙ ap₂ (λ (c : Text) (l : Text). joined_from c l (map text rest)) command_is last_is
      ∙ ap (λ (ws : List X). joined (map text ws)) (sym words_are)

  -- all words
  pub line_ended : (rest : List X) (i : ℕ) (done line : List (String Global)) (last : String Global) (command : Text) → length rest ≤ i
      → line ≡ done ++ last ∷ []
      → map string_bytes line ≡ line_of (map string_bytes done) command (string_bytes last) (map text (drop i rest))
  unfolding joined_from
  line_ended rest i done line last command over is =
      ap (map string_bytes) is ∙ map-append string_bytes done (last ∷ [])
      ∙ sym (at_drop_all (λ (r : List X). line_of (map string_bytes done) command (string_bytes last) (map text r)) rest i over)
