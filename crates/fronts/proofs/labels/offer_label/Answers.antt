use Rattle.std.proofs.Common.{◌≡◌, List, ◌++◌, ◌∷◌, [], false, not, length, Contains, inl, inr, refl, sym, ◌∙◌, ap, ap₂, subst}
use Rattle.std.proofs.lemmas.List.{get_or_default, length-set}
use Rattle.fronts.specs.declared.labels.Label.{Label}
use Rattle.fronts.specs.declared.labels.LabelRun.{LabelRun}
use Rattle.fronts.specs.Labels.{ArePut, labels_in, no_run, run_at, labels_at}
use Rattle.fronts.specs.Offered.{is_beaten, others}
use Rattle.fronts.proofs.Leaving.{match_err}
use Rattle.fronts.proofs.Runs.{partly_same, run_here, run_there, runs_put, runs_sound, with_admitted}
use Rattle.fronts.proofs.labels.offer_label.Given as given
use Rattle.fronts.proofs.labels.offer_label.Goals.{After-deref-3, After-some_no_worse}
use Rattle.fronts.proofs.labels.offer_label.Goals as goal

-- the labels that stay, and the new one
kept_are : (g : given.Over) (c : goal.After-deref-3 g) → c.deref-3.result.now
    ≡ others (g.C.Criterion.rules c.args.criterion.now) c.args.value (labels_in c.args.labels.now.labels.items c.index-run.result.now)
    ++ record { value = c.args.value; tag = c.in_ok-tag.tag } ∷ []
kept_are g c =
    let rules = g.C.Criterion.rules c.args.criterion.now in
    let run = c.index-run.result.now in
    let label : Label g.row.C-V.Denot = record { value = c.args.value; tag = c.in_ok-tag.tag } in
    c.deref-3.ensures.value ∙ c.in_ok-push.ensures.items
    ∙ ap (λ (xs : List (Label g.row.C-V.Denot)). xs ++ label ∷ []) (c.in_ok-keep_others.ensures
    ∙ ap (others rules c.args.value) (c.part-2.ensures
    ∙ ap (λ (xs : List (Label g.row.C-V.Denot)). labels_in xs run) c.deref-2.ensures.value))

-- whether one of the trip's labels is as good
asked : (g : given.Over) (c : goal.After-some_no_worse g)
    → is_beaten (g.C.Criterion.rules c.args.criterion.now) (labels_at c.args.labels.now c.args.trip) c.args.value ≡ c.some_no_worse.result
asked g c =
    let rules = g.C.Criterion.rules c.args.criterion.now in
    let runs = c.args.labels.now.runs.items in
    let run = c.index-run.result.now in
    sym (c.some_no_worse.ensures ∙ ap (λ ls. is_beaten rules ls c.args.value) (c.part.ensures
    ∙ ap (λ xs. labels_in xs run) c.deref.ensures.value
    ∙ ap (labels_in c.args.labels.now.labels.items) (c.index-run.ensures ∙ get_or_default runs c.args.trip run no_run c.requires.trip.there)))

-- none is
free : (g : given.Over) (c : goal.After-some_no_worse g) → c.some_no_worse.result ≡ false
    → is_beaten (g.C.Criterion.rules c.args.criterion.now) (labels_at c.args.labels.now c.args.trip) c.args.value ≡ false
free g c none = asked g c ∙ none

pub returns-clause-labels : goal.returns-clause-labels
returns-clause-labels g c =
    let rules = g.C.Criterion.rules c.args.criterion.now in
    let runs = c.args.labels.now.runs.items in
    let old = c.args.labels.now.labels.items in
    let now = c.put.new.labels.items in
    let run = c.index-run.result.now in
    let placed = c.in_ok-labels.field-0 in
    let are = c.requires.trip.sound in
    let label : Label g.row.C-V.Denot = record { value = c.args.value; tag = c.in_ok-tag.tag } in
    let run_is = c.index-run.ensures ∙ get_or_default runs c.args.trip run no_run c.requires.trip.there in
    let put = subst (λ (r : LabelRun). ArePut old r c.deref-3.result.now placed now) run_is c.in_ok-labels.ensures in
    let new_is = kept_are g (goal.at.returns-clause-labels g c).After-deref-3 in
    record {
      sound = record {
        runs = runs_put runs c.args.trip placed c.requires.trip.there (length old) (length now) are.runs put.counted put.within put.longer put.apart;
        admitted = λ l h. elim (put.only l h) [
          | inl was ↦ are.admitted l was
          | inr is ↦ with_admitted rules old run c.args.value label are.admitted c.requires.value l
              (subst (λ (xs : List (Label g.row.C-V.Denot)). Contains xs l) new_is is)
        ];
      };
      long = length-set runs c.args.trip placed;
    }

pub returns-clause-taken : goal.returns-clause-taken
returns-clause-taken g c =
    let rules = g.C.Criterion.rules c.args.criterion.now in
    let runs = c.args.labels.now.runs.items in
    let old = c.args.labels.now.labels.items in
    let now = c.put.new.labels.items in
    let run = c.index-run.result.now in
    let placed = c.in_ok-labels.field-0 in
    let are = c.requires.trip.sound.runs in
    let run_is = c.index-run.ensures ∙ get_or_default runs c.args.trip run no_run c.requires.trip.there in
    let put = subst (λ (r : LabelRun). ArePut old r c.deref-3.result.now placed now) run_is c.in_ok-labels.ensures in
    record {
      judged = sym (ap not (free g (goal.at.returns-clause-taken g c).After-some_no_worse c.if-some_no_worse.false));
      taken = ap (labels_in now) (run_here runs c.args.trip placed c.requires.trip.there c.args.trip refl) ∙ put.here
          ∙ kept_are g (goal.at.returns-clause-taken g c).After-deref-3
          ∙ ap₂ (λ r t. others rules c.args.value (labels_in old r) ++ record { value = c.args.value; tag = t } ∷ []) run_is
          c.in_ok-tag.ensures;
      elsewhere = λ k other. ap (labels_in now) (run_there runs c.args.trip placed c.requires.trip.there k other)
          ∙ put.others (run_at runs k) (are.counted k) (are.within k) (are.apart k c.args.trip other);
    }

pub returns-then-some_no_worse-clause-taken : goal.returns-then-some_no_worse-clause-taken
returns-then-some_no_worse-clause-taken g c = record {
  judged = sym (ap not (asked g (goal.at.returns-then-some_no_worse-clause-taken g c).After-some_no_worse ∙ c.if-some_no_worse.true));
  taken = refl;
  elsewhere = λ k other. refl;
}

pub returns-in_err-tag-clause-taken : goal.returns-in_err-tag-clause-taken
returns-in_err-tag-clause-taken g c =
    match_err _ _ c.from_residual.result c.from_residual.ensures.1 (record {
      free = free g (goal.at.returns-in_err-tag-clause-taken g c).After-some_no_worse c.if-some_no_worse.false;
      stay = λ k. refl;
    })

pub returns-in_err-keep_others-clause-taken : goal.returns-in_err-keep_others-clause-taken
returns-in_err-keep_others-clause-taken g c =
    match_err _ _ c.from_residual-in_err-keep_others.result c.from_residual-in_err-keep_others.ensures.1 (record {
      free = free g (goal.at.returns-in_err-keep_others-clause-taken g c).After-some_no_worse c.if-some_no_worse.false;
      stay = λ k. refl;
    })

pub returns-in_err-push-clause-taken : goal.returns-in_err-push-clause-taken
returns-in_err-push-clause-taken g c =
    match_err _ _ c.from_residual-in_err-push.result c.from_residual-in_err-push.ensures.1 (record {
      free = free g (goal.at.returns-in_err-push-clause-taken g c).After-some_no_worse c.if-some_no_worse.false;
      stay = λ k. refl;
    })

pub returns-in_err-labels-clause-taken : goal.returns-in_err-labels-clause-taken
returns-in_err-labels-clause-taken g c =
    let labels = c.args.labels.now in
    let labels_are = c.requires.trip.sound.runs in
    match_err _ _ c.from_residual-in_err-labels.result c.from_residual-in_err-labels.ensures.1 (record {
      free = free g (goal.at.returns-in_err-labels-clause-taken g c).After-some_no_worse c.if-some_no_worse.false;
      stay = λ k. partly_same labels.labels.items c.deref-3.result.now c.put.new.labels.items (run_at labels.runs.items k)
          (labels_are.counted k) (labels_are.within k) c.in_err-labels.ensures;
    })

pub returns-in_err-labels-clause-labels : goal.returns-in_err-labels-clause-labels
returns-in_err-labels-clause-labels g c =
    let rules = g.C.Criterion.rules c.args.criterion.now in
    let labels = c.args.labels.now in
    let run = c.index-run.result.now in
    let label : Label g.row.C-V.Denot = record { value = c.args.value; tag = c.in_ok-tag.tag } in
    let new_is = kept_are g (goal.at.returns-in_err-labels-clause-labels g c).After-deref-3 in
    record {
      sound = runs_sound rules labels _ c.deref-3.result.now c.requires.trip.sound refl c.in_err-labels.ensures
          (λ l h. with_admitted rules labels.labels.items run c.args.value label c.requires.trip.sound.admitted c.requires.value l
          (subst (λ (xs : List (Label g.row.C-V.Denot)). Contains xs l) new_is h));
      long = refl;
    }
