use Rattle.std.proofs.Common.{ℕ, List, Contains, refl, subst}
use Rattle.scan_state.specs.ScanState.{AreFinalWalks, final_walks_of}
use Rattle.scan_state.specs.Starts.{AreStarts}
use Rattle.profile_scan.proofs.answering.ask.Goals as goal

pub starts_from-requires : goal.starts_from-requires
starts_from-requires g c = λ stop is. c.requires.sources stop (subst (λ (xs : List ℕ). Contains xs stop) c.deref.ensures.value is)

pub final_walks_to-requires : goal.final_walks_to-requires
final_walks_to-requires g c = λ stop is. c.requires.targets stop (subst (λ (xs : List ℕ). Contains xs stop) c.deref-2.ensures.value is)

pub returns : goal.returns
returns g c =
    let t = g.S.ConnSource.timetable c.args.source.now in
    record {
      asked = record {
        by = c.requires.small.2;
        starts = subst (λ (xs : List ℕ). AreStarts t xs c.in_ok-starts.starts) c.deref.ensures.value c.in_ok-starts.ensures;
        final_walks = subst (λ (xs : List ℕ). AreFinalWalks t xs (final_walks_of c.in_ok-final_walks.final_walks)) c.deref-2.ensures.value
            c.in_ok-final_walks.ensures;
      };
      keeps = (refl, refl);
    }
