use Rattle.std.proofs.Common.{◌≡◌, ◌+◌, ◌*◌, ◌-◌, ℕ, List, length, ap, sym, subst, ◌∙◌, arith}
use Rattle.image_layout.specs.Offsets.{header_of, foot_index_offset, footpath_offset, name_index_offset}
use Rattle.sources.specs.FootStarts.{AreStarts}
use Rattle.sources.proofs.Feet.{index_starts, words_whole, words_header}
use Rattle.sources.proofs.in_place.InPlace.new.Goals as goal

pub of-header-requires : goal.of-header-requires
of-header-requires g c = (words_whole c.words-words.result.now c.args.image.now c.words-words.ensures).has_header

pub slice_bounds-result-end : goal.slice_bounds-result-end
slice_bounds-result-end g c =
    let words = c.words-words.result.now in
    let whole = words_whole words c.args.image.now c.words-words.ensures in
    omega (
      arith,
      c.foot_index_offset.ensures,
      c.footpath_offset.ensures,
      ap footpath_offset c.of-header.ensures,
      ap foot_index_offset c.of-header.ensures,
      whole.all_there,
    )

pub slice_bounds-result-end-2 : goal.slice_bounds-result-end-2
slice_bounds-result-end-2 g c =
    let words = c.words-words.result.now in
    let whole = words_whole words c.args.image.now c.words-words.ensures in
    omega (
      arith,
      c.name_index_offset.ensures,
      c.footpath_offset-2.ensures,
      ap footpath_offset c.of-header.ensures,
      ap name_index_offset c.of-header.ensures,
      whole.all_there,
    )

pub invariant_of-result : goal.invariant_of-result
invariant_of-result g c =
    let image = c.args.image.now in
    let t = image.timetable in
    let words = c.words-words.result.now in
    let header : c.of-header.result ≡ header_of words = c.of-header.ensures in
    let shape = words_header words image c.words-words.ensures in
    let first : c.foot_index_offset.result ≡ 9 + 6 * length t.connections =
    c.foot_index_offset.ensures ∙ ap foot_index_offset header ∙ shape.index in
    let second : c.footpath_offset.result ≡ (9 + 6 * length t.connections) + (t.stops + 1) =
    c.footpath_offset.ensures ∙ ap footpath_offset header ∙ shape.feet in
    let again : c.footpath_offset-2.result ≡ (9 + 6 * length t.connections) + (t.stops + 1) =
    c.footpath_offset-2.ensures ∙ ap footpath_offset header ∙ shape.feet in
    let third : c.name_index_offset.result ≡ (9 + 6 * length t.connections) + (t.stops + 1) + 2 * length t.footpaths =
    c.name_index_offset.ensures ∙ ap name_index_offset header ∙ shape.names in
    let long : c.footpath_offset.result - c.foot_index_offset.result ≡ t.stops + 1 = omega (arith, first, second) in
    let many : c.name_index_offset.result - c.footpath_offset-2.result ≡ 2 * length t.footpaths = omega (arith, again, third) in
    record {
      legal = c.stops.ensures.kept.legal;
      limits = c.stops.ensures.kept.limits;
      indexed = rw (long, first) (subst (λ (starts : List ℕ). AreStarts t starts) (sym (shape.starts_there)) (index_starts t c.stops.ensures.kept.legal));
      spelled = rw (many, again) shape.feet_there;
    }
