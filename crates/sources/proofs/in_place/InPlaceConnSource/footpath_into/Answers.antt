use Rattle.std.proofs.Common.{◌≡◌, ◌+◌, ◌*◌, ℕ, List, length, get_or, refl, ap, sym, ◌∙◌, arith}
use Rattle.std.specs.Prelude.{slice_get, Some}
use Rattle.std.specs.List.{flat_map}
use Rattle.std.proofs.lemmas.Option.{slice_get-get_or}
use Rattle.timetable.specs.declared.network.Footpath.{Footpath}
use Rattle.image_layout.specs.Spelling.{footpath_words}
use Rattle.image_layout.proofs.Spelled.{piece_word, pieces_long}
use Rattle.sources.proofs.in_place.InPlaceConnSource.footpath_into.Goals as goal

pub bounds-self-index : goal.bounds-self-index
bounds-self-index g c =
    let s = c.args.self.now in
    let fs = s.image.now.timetable.footpaths in
    omega (arith, c.requires.index, ap (λ (w : List ℕ). length w) s.spelled, pieces_long footpath_words 2 (λ x. refl) fs)

pub bounds-self-index-2 : goal.bounds-self-index-2
bounds-self-index-2 g c =
    let s = c.args.self.now in
    let fs = s.image.now.timetable.footpaths in
    omega (arith, c.requires.index, ap (λ (w : List ℕ). length w) s.spelled, pieces_long footpath_words 2 (λ x. refl) fs)

pub returns : goal.returns
returns g c =
    let s = c.args.self.now in
    let fs = s.image.now.timetable.footpaths in
    let k = c.args.index in
    let none : Footpath = record { from = 0; to = 0; secs = 0 } in
    let f = get_or fs k none in
    let at : slice_get fs k ≡ Some f = slice_get-get_or fs k none c.requires.index in
    let place : 2 * k ≡ 2 * k + 0 = omega arith in
    let from : get_or s.footpaths.now (2 * k) 0 ≡ f.from =
    ap (λ (w : List ℕ). get_or w (2 * k) 0) s.spelled
    ∙ ap (λ (j : ℕ). get_or (flat_map footpath_words fs) j 0) place
    ∙ piece_word footpath_words 2 (λ x. refl) fs k 0 f at (omega arith) in
    let secs : get_or s.footpaths.now (2 * k + 1) 0 ≡ f.secs =
    ap (λ (w : List ℕ). get_or w (2 * k + 1) 0) s.spelled
    ∙ piece_word footpath_words 2 (λ x. refl) fs k 1 f at (omega arith) in
    let to : f.to ≡ c.args.stop = c.requires.into f at in
    rw (from, secs, sym to) at
