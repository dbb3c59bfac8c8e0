-- `at` makes a value of no bytes, whose ghost field is the value that the caller chose.
use mathlib.Core.Path.{refl}
use mathlib.Core.List.{[], ◌∷◌}
use mir.Syntax.{a_type, named}
use mir.Val.{Val, vptr, vstruct, vcons, vnil}
use mir.MapTy.{inst_fn}
use base.Logic.{SProp}
use base.Fml.{Fml}
use contract.Running.{tables}
use types.Kit.{‵, raw, ◌⊛◌, ◌$◌, ◌∵◌, !, qed, move, keep, split, fjoin, use0, suffices, done}
use types.Run.{no_more, and_then, returns, enter}
use types.Part.{agg}
use types.ByLocal.{alloc_all, pass_all, free_all, look_at, get, sets}
use denote.RattleType.{RattleType, owns}
use denote.Builtin.{RefOf}
use denote.Exit.{yes}
use denote.Param.{param, layouts}
use denote.Ref.{shr_vals, shr_Tells}
use denote.Shadow.{makes_shadow}
use denote.Signature.{types_at, plain}
use denote.Steps.{nothing}
use denote.Triple.Entry.{alive}
use denote.Triple.Walked.{says, Stays, stay_dropped, Goes-dropped, walk_of, ends_at}
use Rattle.std.proofs.raw_atomic.Walks.{proved}
use Rattle.reasoning.specs.contracts.ghost_value.GhostValue.{the_row}
use Rattle.reasoning.specs.contracts.ghost_value.GhostValue.at.{ended, clauses}
use Rattle.reasoning.specs.contracts.ghost_value.GhostValue.at.Key.{name as #self}
use Rattle.reasoning.proofs.ghost_value.GhostValue.at.Statement.{statement}
use Rattle.reasoning.proofs.ghost_value.GhostValue.at.Code as code

pub at_spec : {M : Type 1} → statement M
at_spec 𝓤 𝓛 𝓜 𝓡 wired T A B laws_T laws_A laws_B =
    let 𝓣 = tables 𝓤 𝓛.H 𝓜 𝓡 𝓡.env in let E = ended T A B in let c = clauses T A B 𝓛 𝓜.mem 𝓡.returns in
    let given = layouts (a_type ∷ a_type ∷ a_type ∷ []) (T, (A, (B, tt))) in let function = inst_fn given code.function in
    let first = RefOf (0 ∷ []) tt (plain (λ _. param 1 A)) (λ _. tt) in let second = RefOf (1 ∷ []) tt (plain (λ _. param 2 B)) (λ _. tt) in
    let stayed : Stays E.signature.params E.kept = (stay_dropped first yes, (stay_dropped second yes, tt)) in
    proved 𝓛 E stayed c 𝓜 𝓡 (Goes-dropped 𝓛 5 first yes (λ κs x f. refl), (Goes-dropped 𝓛 5 second yes (λ κs x f. refl), tt))
    (#self given) function (code.unfolded 𝓤 𝓛.H 𝓜 𝓡 wired (T, (A, (B, tt))))
    (λ κs. (shr_vals, (shr_vals, tt))) (λ κs. (shr_Tells (named 0) κs.0 (param 1 A), (shr_Tells (named 1) κs.1.0 (param 2 B), tt)))
    (λ κs qs bounds a chosen are.
    let R : RattleType = the_row (param 0 T) in
    let made : R.Denot = record { marker = record {}; value = chosen } in
    let v : Val = vstruct (vcons (vstruct vnil) vnil) in let O : Fml = R.own_val made (v ∷ []) in
    let p = vptr a.0.ref_ptr.0 a.0.ref_ptr.1 in let q = vptr a.1.0.ref_ptr.0 a.1.0.ref_ptr.1 in
    let y : (walk_of 𝓛 E stayed c).Ghost = ((κs, qs, bounds, a, (p ∷ [], (q ∷ [], tt))), chosen) in let Post : Val → SProp 𝓤 = (walk_of 𝓛 E stayed c).post y in
    qed 𝓛 ((raw (alive 𝓛 E.signature κs qs) ⊛ ‵ (owns (types_at E.signature.params κs) a y.0.4)) ∷ raw ((c κs a).requires chosen) ∷ []) ∵
    split ! $ keep ! (0 ∷ []) $
    enter ! 𝓣.C 𝓣.Λ function (p ∷ q ∷ []) Post $ alloc_all ! (λ l. pass_all ! refl ((tt, tt), ((tt, tt), tt)) $
    sets ! (agg ! (no_more !)) refl (tt, tt) $ sets ! (agg ! (and_then ! (get ! refl) (no_more !))) refl (tt, (tt, tt)) $
    returns ! (look_at ! 0 refl) $ free_all ! refl $
    use0 𝓛 (‵ O) (makes_shadow 𝓛 O ((λ vss. (tt, ((λ uss. (tt, tt)), tt))), tt) (((vstruct vnil ∷ [], tt), (refl, ((tt, (refl, tt)), tt))), tt)) $
    suffices ! _ (ends_at 𝓛 E stayed c y v made (tt, (tt, tt)) (tt, (tt, tt))) $ says ! refl $
    nothing ! $ nothing ! $ fjoin ! $ nothing ! $ fjoin ! $ move ! (2 ∷ 0 ∷ 1 ∷ []) $ done !))
