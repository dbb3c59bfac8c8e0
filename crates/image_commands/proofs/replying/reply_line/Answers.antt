use Rattle.std.proofs.Common.{[], ◌++◌, ◌∙◌, FitsSigned, ap, codes, rules, string_bytes, subst, w64, ℤ}
use Rattle.std.proofs.lemmas.Int.{to_z-of_z}
use Rattle.image_facts.specs.Base.{HasBaseMembers}
use Rattle.image_commands.specs.Listing.{without_brace}
use Rattle.text_pieces.proofs.Joined.{three}
use Rattle.image_commands.proofs.replying.reply_line.Goals as goal

pub returns : goal.returns
returns g c =
    let begun = c.in_ok-begin_with_base.ensures in
    let fits : FitsSigned w64 c.base.result = search rules in (
      begun.0,
      subst (λ (n : ℤ). HasBaseMembers n begun.0) (to_z-of_z w64 c.base.result fits ∙ c.base.ensures) begun.1,
      three [] (string_bytes c.begin_with_base.new.json) (string_bytes c.put_text.new.out) (string_bytes c.put_text-2.new.out) begun.0 (codes ",") _
          (begun.2 ∙ ap (λ o. o ++ begun.0) c.new-line.ensures.bytes) c.in_ok-put_text.ensures
          (c.in_ok-put_text-2.ensures ∙ ap (λ text. string_bytes c.put_text.new.out ++ text)
          (c.members_of.ensures ∙ ap without_brace (c.as_str.ensures.value ∙ c.in_ok-reply.ensures))),
    )
