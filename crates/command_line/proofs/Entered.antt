-- The command that a parse entered; the program is simple.
use Rattle.std.proofs.Common.{◌≡◌, ◌≢◌, ◌<◌, ◌∙◌, ◌∷◌, ◌⊎◌, ℕ, List, [], None, Option, Some, ap, ap₂, get_or, inl, inr, length, map, refl}
use Rattle.std.proofs.Common.{subst, sym, true, ⊎_elim}
use Rattle.std.specs.Prelude.{Err, IsSomeAnd, Ok, Result, is_some, option_map, slice_get, unwrap_or}
use Rattle.std.proofs.lemmas.Bool.{true≢false}
use Rattle.std.proofs.lemmas.Option.{slice_get-get_or, slice_get-map}
use Rattle.clap.specs.Words.{Row, Text, fault_of, is_simple, is_simple_and_free}
use Rattle.clap.proofs.OnLiterals.{clap_on_literals}
use Rattle.command_line.specs.Grammar.{csa_app}
use Rattle.command_line.specs.Reading.{AsksForHelp, AsksOnlyForHelp, AsksTopic, IsLineRead, IsShown, Names}
use Rattle.command_line.specs.Requests.{Finds, IsHelp, IsMistake}
use Rattle.command_line.specs.declared.reading.NoCommand.{NoCommand}
use Rattle.command_line.specs.declared.reading.NoCommand.TheVariants.{Help, Mistake, OutOfMemory}
use Rattle.command_requests.specs.declared.requests.CommandRequest.{CommandRequest}
use Rattle.clap.specs.Kinds.{IsAmong, Kinds}
use Rattle.clap.specs.declared.error.kind.ErrorKind.{ErrorKind}
use Rattle.clap.specs.declared.error.kind.ErrorKind.TheVariants.{DisplayHelp, DisplayVersion, OutOfMemory as SpentMemory}

inside : {A : Type 0} (a b : A) → Some a ≡ Some b → a ≡ b
inside {A} a b same = ap (λ (o : Option A). unwrap_or o a) same

abbrev both : {B : Type 0} → (B → Text) → (B → List Row) → B → Text × List Row
both f g b = (f b, g b)

-- its name and its values
pub entered_as : {N M B : Type 0} (p : N → Text) (q : M → List Row) (f : B → Text) (g : B → List Row) (r : Option (N × M)) (s : Option B) (n : N)
    (m : M) → r ≡ Some (n, m) → option_map (λ (x : N × M). p x.0) r ≡ option_map f s
    → option_map (λ (x : N × M). q x.1) r ≡ option_map (λ (x : Text × List Row). x.1) (option_map (both f g) s)
    → option_map (both f g) s ≡ Some (p n, q m)
entered_as {N} {M} {B} p q f g r None n m is named read =
    absurd (true≢false (ap (λ (o : Option Text). is_some o) (sym (ap (λ (o : Option (N × M)). option_map (λ (x : N × M). p x.0) o) is) ∙ named)))
entered_as {N} {M} {B} p q f g r (Some b) n m is named read =
    let name : f b ≡ p n = inside (f b) (p n) (sym named ∙ ap (λ (o : Option (N × M)). option_map (λ (x : N × M). p x.0) o) is) in
    let values : g b ≡ q m = inside (g b) (q m) (sym read ∙ ap (λ (o : Option (N × M)). option_map (λ (x : N × M). q x.1) o) is) in
    ap₂ (λ (x : Text) (y : List Row). Some (x, y)) name values

pub csa_is_simple : is_simple csa_app ≡ true
unfolding csa_app clap_on_literals
csa_is_simple = refl

pub csa_is_free : is_simple_and_free csa_app ≡ true
unfolding csa_app clap_on_literals
csa_is_free = refl

-- a word of the command line
pub word_at : {X : Type 0} (text : X → Text) (xs : List X) (i : ℕ) (d x : X) (word : Text) (P : Text → Type 0) → i < length xs
    → x ≡ get_or xs i d → word ≡ text x → P word → IsSomeAnd (slice_get (map text xs) i) P
word_at {X} text xs i d x word P inside there is holds =
    subst (λ (o : Option Text). IsSomeAnd o P)
    (sym (slice_get-map text xs i ∙ ap (option_map text) (slice_get-get_or xs i d inside ∙ ap (λ (y : X). Some y) (sym there))))
    (subst P is holds)

-- the same request by another rule
pub finds_by : {R : Type 0} (result : Result R NoCommand) (P Q : R → Type 0) → ((request : R) → P request → Q request)
    → ((request : R) → Q request → P request) → Finds P result → Finds Q result
finds_by (Ok request) P Q to from is = to request is
finds_by (Err fault) P Q to from none = (none.0, λ memory request is. none.1 memory request (from request is))

-- what is read of words that clap takes
pub read_request : (words : List Text) (result : Result CommandRequest NoCommand) → fault_of csa_app words ≡ []
    → Finds (Names words) result → IsLineRead words result
read_request words (Ok request) taken is = is
read_request words (Err (Help text)) taken none = absurd (none.0 tt)
read_request words (Err (Mistake text)) taken none = (
  none.1 (λ same. cc),
  λ help. let bad : [] ≡ help.0 ∷ [] = sym taken ∙ help.2 in cc,
)
read_request words (Err OutOfMemory) taken none = tt

-- and of words that it refuses
pub read_fault : (words : List Text) (fault : NoCommand) → (fault ≢ OutOfMemory → (request : CommandRequest) → ¬ (Names words request))
    → (IsHelp fault → AsksForHelp words) → (AsksOnlyForHelp words → ¬ (IsMistake fault)) → IsLineRead words (Err fault)
read_fault words (Help text) none help shown = help tt
read_fault words (Mistake text) none help shown = (none (λ same. cc), λ only. shown only tt)
read_fault words OutOfMemory none help shown = tt

-- a fault of words that only ask for help is that they do
pub only_shown : (words : List Text) (kind : ErrorKind) → IsAmong kind (fault_of csa_app words) → AsksOnlyForHelp words → IsShown kind
only_shown words kind among (asked, shown, is) =
    ⊎_elim (λ (same : kind ≡ asked). subst IsShown (sym same) shown) (λ (none : ⊥). absurd none)
    (subst (λ (faults : Kinds). IsAmong kind faults) is among)

-- `csa help` asks for help
pub topic_is_help : (words : List Text) → AsksTopic words → AsksForHelp words
unfolding csa_app clap_on_literals
topic_is_help [] is = absurd is
topic_is_help (program ∷ []) is = absurd is
topic_is_help (program ∷ word ∷ rest) is =
    subst (λ (w : Text). AsksForHelp (program ∷ w ∷ rest)) (sym is) (inl (inl refl))

-- a fault of such a kind
pub shown_is_help : (words : List Text) (kind : ErrorKind) → IsShown kind → (kind ≡ SpentMemory) ⊎ IsAmong kind (fault_of csa_app words)
    → AsksForHelp words
shown_is_help words kind shown (inl spent) =
    absurd (⊎_elim (λ (help : kind ≡ DisplayHelp). let bad : SpentMemory ≡ DisplayHelp = sym spent ∙ help in cc)
    (λ (version : kind ≡ DisplayVersion). let bad : SpentMemory ≡ DisplayVersion = sym spent ∙ version in cc) shown)
shown_is_help words kind shown (inr among) =
    ⊎_elim (λ (help : kind ≡ DisplayHelp). inl (subst (λ (k : ErrorKind). IsAmong k (fault_of csa_app words)) help among))
    (λ (version : kind ≡ DisplayVersion). inr (subst (λ (k : ErrorKind). IsAmong k (fault_of csa_app words)) version among)) shown
