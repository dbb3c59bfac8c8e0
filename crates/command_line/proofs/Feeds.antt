-- The feeds that words name.
use Rattle.std.proofs.Common.{◌≡◌, ◌≢◌, ◌+◌, ◌<◌, ◌∙◌, ◌++◌, ◌∷◌, ℕ, List, [], ap, ap₂, arith, get_or, length, map, refl, subst, suc, sym, take, zero}
use Rattle.std.specs.Prelude.{◌==◌}
use Rattle.std.specs.List.{AllZip, Any, before_first}
use Rattle.std.proofs.lemmas.Grind.{common_steps}
use Rattle.std.proofs.lemmas.List.{get_or-map, map-append, take_more}
use Rattle.std.proofs.lemmas.List.Quantifiers.{all_pairs_push}
use Rattle.clap.specs.Words.{Text}
use Rattle.command_requests.specs.declared.requests.NamedFolder.{NamedFolder}
use Rattle.command_line.specs.Requests.{AreDistinct}
use Rattle.command_line.specs.Values.{SpellsFolder}
use Rattle.command_line.proofs.Distinct.{not_distinct}

abbrev pub names : List NamedFolder → List Text
names feeds = map (λ feed. feed.name.now) feeds

abbrev name_in : Text → Text
name_in word = before_first (λ b. b == 61) word

names_are : (words : List Text) (feeds : List NamedFolder) → AllZip SpellsFolder words feeds → names feeds ≡ map name_in words
names_are [] [] all = refl
names_are [] (f ∷ fs) all = absurd all
names_are (w ∷ ws) [] all = absurd all
names_are (w ∷ ws) (f ∷ fs) all = ap₂ (λ (x : Text) (xs : List Text). x ∷ xs) all.0.0 (names_are ws fs all.1)

-- the feed of one word
pub feed_at : (words : List Text) (feeds : List NamedFolder) (i : ℕ) → AllZip SpellsFolder words feeds → i < length words
    → (feed : NamedFolder) × SpellsFolder (get_or words i []) feed
feed_at [] feeds i all inside = absurd (omega arith)
feed_at (w ∷ ws) [] i all inside = absurd all
feed_at (w ∷ ws) (f ∷ fs) zero all inside = (f, all.0)
feed_at (w ∷ ws) (f ∷ fs) (suc i) all inside = feed_at ws fs i all.1 (omega arith)

pushed : (words : List Text) (feeds : List NamedFolder) (word : Text) (feed : NamedFolder) → AllZip SpellsFolder words feeds
    → SpellsFolder word feed → AllZip SpellsFolder (words ++ word ∷ []) (feeds ++ feed ∷ [])
pushed [] [] word feed all last = (last, tt)
pushed [] (f ∷ fs) word feed all last = absurd all
pushed (w ∷ ws) [] word feed all last = absurd all
pushed (w ∷ ws) (f ∷ fs) word feed all last = (all.0, pushed ws fs word feed all.1 last)

module _ (words : List Text) (i : ℕ) (inside : i < length words) (feeds : List NamedFolder) (before : AllZip SpellsFolder (take i words) feeds)
  where
    pub feed_more : (feed : NamedFolder) → SpellsFolder (get_or words i []) feed → AllZip SpellsFolder (take (i + 1) words) (feeds ++ feed ∷ [])
    feed_more feed last = subst (λ (ws : List Text). AllZip SpellsFolder ws (feeds ++ feed ∷ [])) (sym (take_more words i [] inside))
        (pushed (take i words) feeds (get_or words i []) feed before last)

    -- the word names a feed by a name that was given before
    pub named_twice : (feed : NamedFolder) → SpellsFolder (get_or words i []) feed → Any (λ f. f.name.now ≡ feed.name.now) feeds
        → (others : List NamedFolder) → AllZip SpellsFolder words others → ¬ (AreDistinct (names others))
    named_twice feed last any others all distinct =
        let named = names_are (take i words) feeds before in
        let lengths : length (names feeds) ≡ length (map name_in (take i words)) = ap length named in
        let early : any.0 < length (take i words) = grind (arith, common_steps) in
        not_distinct name_in words i [] inside any.0 early
        (ap (λ (l : List Text). get_or l any.0 []) (sym named) ∙ get_or-map (λ (f : NamedFolder). f.name.now) feeds any.0 any.1 [] any.2
        ∙ ap (λ (f : NamedFolder). f.name.now) any.3 ∙ any.4 ∙ last.0)
        (subst AreDistinct (names_are words others all) distinct)

-- a feed of a new name
pub names_more : (feeds : List NamedFolder) (feed : NamedFolder) → AreDistinct (names feeds) → ¬ (Any (λ f. f.name.now ≡ feed.name.now) feeds)
    → AreDistinct (names (feeds ++ feed ∷ []))
names_more feeds feed before new = subst AreDistinct (sym (map-append (λ (f : NamedFolder). f.name.now) feeds (feed ∷ [])))
    (all_pairs_push (λ (a b : Text). a ≢ b) (names feeds) feed.name.now before (λ k d early same.
    let there : k < length feeds = grind (arith, common_steps) in
    new (k, get_or feeds k feed, there, grind (arith, common_steps), sym (get_or-map (λ (f : NamedFolder). f.name.now) feeds k feed d there) ∙ same)))
