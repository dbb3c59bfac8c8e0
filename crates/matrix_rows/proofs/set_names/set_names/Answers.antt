use Rattle.std.proofs.Common.{◌∙◌, ℕ, List, ap, subst}
use Rattle.std.specs.Global.{Vec}
use Rattle.std.specs.List.{AllZip}
use Rattle.std.proofs.lemmas.List.{take_all}
use Rattle.image_files.specs.Naming.{names_in}
use Rattle.matrix_rows.specs.Tables.{set_bytes}
use Rattle.matrix_rows.proofs.Answering.{no_pairs, zipped_push}
use Rattle.matrix_rows.proofs.Names.{IsCalled, all_named}
use Rattle.matrix_rows.proofs.set_names.set_names.Goals as goal

pub loop-set-init : goal.loop-set-init
loop-set-init c = no_pairs (IsCalled (names_in c.args.form c.args.image.now.names)) c.in_ok-names.names.items c.in_ok-names.ensures.items

pub loop-set-preserved : goal.loop-set-preserved
loop-set-preserved c =
    let names = (names_in c.args.form c.args.image.now.names) in
    let set = c.set-item.result in
    let name = c.in_ok-set_name.field-0 in
    let is : IsCalled names set name = c.in_ok-set_name.ensures ∙ ap (set_bytes names) c.deref.ensures.value in
    zipped_push (IsCalled names) c.args.sets.now c.loop-set.set-index set c.loop-set.names.items c.push.new.self.items name c.loop-set-test.true
    c.loop-set.invariant (subst (λ (s : Vec ℕ). IsCalled names s name) c.set-item.is is) c.in_ok-push.ensures.items

pub returns : goal.returns
returns c =
    let names = (names_in c.args.form c.args.image.now.names) in
    all_named names c.args.sets.now c.loop-set.names.items
    (subst (λ (sets : List (Vec ℕ)). AllZip (IsCalled names) sets c.loop-set.names.items)
    (take_all c.loop-set.set-index c.args.sets.now c.loop-set-test.false) c.loop-set.invariant)
