-- The shortest footpath from several stops.
use Rattle.std.proofs.Common.{◌≡◌, ◌⊎◌, ◌≤◌, ℕ, min, List, [], ◌∷◌, ◌++◌, Option, None, Some, Contains, arith, inl, inr, refl, subst}
use Rattle.std.proofs.lemmas.Bool.{cases_lt}
use Rattle.std.proofs.lemmas.List.Elements.{Contains-append_left, Contains-append_right, Contains-push_cases}
use Rattle.reasoning.proofs.ListLemmas.{at_contains, contains_at, contains_first, not_in_nil}
use Rattle.timetable.specs.TimetableValue.{TimetableValue}
use Rattle.timetable.specs.declared.network.Footpath.{Footpath}
use Rattle.scan_state.specs.SetQuery.{SetQueryValue, IsDirect, IsDirectWalk, IsTakenBefore, secs_of}
use Rattle.scan_state.specs.Origins.{from_stop}
use Rattle.matrix_rows.specs.Merging.{shorter_of}
use Rattle.matrix_rows.specs.Tables.{IsLeastWalk, LeadsBetween, from_stops}

no_longer : (i k secs m n other : ℕ) → IsTakenBefore i k secs m n other → secs ≤ other
no_longer i k secs m n other (inl less) = omega (arith, less)
no_longer i k secs m n other (inr same) = (let e = same.0 in omega (arith, e))

module _ (t : TimetableValue) (d : SetQueryValue) where
  direct_of : (stop : ℕ) (f : Footpath) → LeadsBetween t (from_stops d (stop ∷ [])) f → (i : ℕ) × (k : ℕ) × IsDirect t (from_stop d stop) i k f
  direct_of stop f leads =
      let source = at_contains (stop ∷ []) f.from leads.leaves in
      let target = at_contains d.targets f.to leads.leads in
      (source.0, target.0, record { is_footpath = leads.is_footpath; leaves = source.1; leads = target.1 })

  -- the direct walk from one stop
  pub walk_of_one : (stop : ℕ) (walk : Option Footpath) → IsDirectWalk t (from_stop d stop) walk → IsLeastWalk t (from_stops d (stop ∷ [])) (secs_of walk)
  walk_of_one stop None none = λ f leads. (let direct = direct_of stop f leads in none direct.0 direct.1 f direct.2)
  walk_of_one stop (Some walk) is = (
    (
      walk,
      record {
        is_footpath = is.2.is_footpath;
        leaves = contains_at (stop ∷ []) is.0 walk.from is.2.leaves;
        leads = contains_at d.targets is.1 walk.to is.2.leads;
      },
      refl,
    ),
    λ f leads.
        let direct = direct_of stop f leads in
        no_longer is.0 is.1 walk.secs direct.0 direct.1 f.secs (is.3 direct.0 direct.1 f direct.2),
  )

  pub walk_of_none : IsLeastWalk t (from_stops d []) None
  walk_of_none = λ f leads. not_in_nil f.from leads.leaves

  module _ (stops : List ℕ) (stop : ℕ) where
    earlier : (f : Footpath) → LeadsBetween t (from_stops d stops) f → LeadsBetween t (from_stops d (stops ++ stop ∷ [])) f
    earlier f leads = record {
      is_footpath = leads.is_footpath;
      leaves = Contains-append_left stops (stop ∷ []) f.from leads.leaves;
      leads = leads.leads;
    }

    last : (f : Footpath) → LeadsBetween t (from_stops d (stop ∷ [])) f → LeadsBetween t (from_stops d (stops ++ stop ∷ [])) f
    last f leads = record {
      is_footpath = leads.is_footpath;
      leaves = Contains-append_right stops (stop ∷ []) f.from leads.leaves;
      leads = leads.leads;
    }

    either : (f : Footpath) → LeadsBetween t (from_stops d (stops ++ stop ∷ [])) f
        → LeadsBetween t (from_stops d stops) f ⊎ LeadsBetween t (from_stops d (stop ∷ [])) f
    either f leads = elim (Contains-push_cases stops stop f.from leads.leaves) [
      | inl before ↦ inl (record { is_footpath = leads.is_footpath; leaves = before; leads = leads.leads })
      | inr same ↦ inr (record {
        is_footpath = leads.is_footpath;
        leaves = subst (λ (s : ℕ). Contains (stop ∷ []) s) same (contains_first stop []);
        leads = leads.leads;
      })
    ]

    -- one stop more
    pub walk_of_more : (one other : Option ℕ) → IsLeastWalk t (from_stops d stops) one → IsLeastWalk t (from_stops d (stop ∷ [])) other
        → IsLeastWalk t (from_stops d (stops ++ stop ∷ [])) (shorter_of one other)
    walk_of_more None None a b = λ f leads. elim (either f leads) [ inl h ↦ a f h | inr h ↦ b f h ]
    walk_of_more None (Some s) a b = (
      (b.0.0, last b.0.0 b.0.1, b.0.2),
      λ f leads. elim (either f leads) [ inl h ↦ absurd (a f h) | inr h ↦ b.1 f h ],
    )
    walk_of_more (Some r) None a b = (
      (a.0.0, earlier a.0.0 a.0.1, a.0.2),
      λ f leads. elim (either f leads) [ inl h ↦ a.1 f h | inr h ↦ absurd (b f h) ],
    )
    walk_of_more (Some r) (Some s) a b = (there, each)
      where
        there : (f : Footpath) × LeadsBetween t (from_stops d (stops ++ stop ∷ [])) f × (f.secs ≡ min r s)
        there = elim (cases_lt r s) [
          | inl less ↦ (a.0.0, earlier a.0.0 a.0.1, (let is = a.0.2 in omega (arith, is, less)))
          | inr over ↦ (b.0.0, last b.0.0 b.0.1, (let is = b.0.2 in omega (arith, is, over)))
        ]

        each : (f : Footpath) → LeadsBetween t (from_stops d (stops ++ stop ∷ [])) f → min r s ≤ f.secs
        each f leads = elim (either f leads) [
          | inl h ↦ (let le = a.1 f h in omega (arith, le))
          | inr h ↦ (let le = b.1 f h in omega (arith, le))
        ]
