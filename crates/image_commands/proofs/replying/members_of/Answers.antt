use Rattle.std.proofs.lemmas.Str.Pattern.{strip_prefix_char}
use Rattle.std.proofs.Common.{◌≡◌, ◌≢◌, ◌∷◌, ℕ, List, Bor, Option, MatchOption, arith, subst}
use Rattle.image_commands.proofs.Braces.{no_brace, with_brace}
use Rattle.image_commands.proofs.replying.members_of.Goals as goal

-- what is left without a brace, if there is one
abbrev IsLeft : List ℕ → Option (Bor (List ℕ)) → Type 0
IsLeft object left = MatchOption left ((rest : List ℕ) → object ≢ 123 ∷ rest) (λ rest. object ≡ 123 ∷ rest.now)

pub returns-in-Some : goal.returns-in-Some
returns-in-Some c =
    with_brace _ _ (subst (IsLeft c.args.object.now) c.in-Some.is
    (strip_prefix_char 123 _ c.strip_prefix.result c.strip_prefix.ensures.cases (omega arith)))

pub returns-in-None : goal.returns-in-None
returns-in-None c =
    no_brace _ (subst (IsLeft c.args.object.now) c.in-None.is
    (strip_prefix_char 123 _ c.strip_prefix.result c.strip_prefix.ensures.cases (omega arith)))
