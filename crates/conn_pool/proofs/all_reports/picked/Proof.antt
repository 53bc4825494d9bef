-- `picked` makes a value of no bytes, which stands for the list that was picked.
use Rattle.std.proofs.Common.{[], ◌∷◌, refl}
use Rattle.std.proofs.raw_atomic.Walks.{proved}
use mir.Syntax.{a_type, dcons, dnil, named}
use mir.MapTy.{inst_fn}
use mir.Val.{vstruct, vcons, vnil, vunit}
use types.Kit.{raw, ‵, ◌⊛◌, ◌$◌, ◌∵◌, !, qed, keep, split, move, suffices, done}
use types.Run.{enter, and_then, no_more, returns, unit_lit}
use types.Part.{agg}
use types.ByLocal.{alloc_all, pass_all, free_all, look_at, sets}
use denote.Exit.{yes}
use denote.RattleType.{RattleType, owns}
use denote.Param.{param, bounded}
use denote.Ref.{shr_vals, shr_Tells}
use denote.Shadow.{pure_i}
use denote.Signature.{plain, types_at}
use denote.Triple.Entry.{alive}
use denote.Triple.Walked.{says, Stays, stay_none_ref, Goes-none_ref, walk_of, ends_at}
use Rattle.conn_pool.specs.contracts.all_reports.AllReports as all_reports
use Rattle.conn_pool.specs.contracts.all_reports.picked as f
use Rattle.conn_pool.proofs.all_reports.picked.Statement.{statement}
use Rattle.conn_pool.proofs.all_reports.picked.Code as code

pub picked_spec : {M : Type 1} → statement M
picked_spec 𝓤 𝓛 𝓜 𝓡 wired X Y P LX LY LP g d _ =
    let A : RattleType = param 0 X in
    let B : RattleType = param 1 Y in
    let R : RattleType = all_reports.the_row in
    let En = f.ended X Y P g d in
    let hs : Stays En.signature.params En.kept = (
      stay_none_ref (0 ∷ []) tt (plain (λ _. A)) yes,
      (stay_none_ref (1 ∷ []) tt (plain (λ _. B)) yes, tt),
    ) in
    let inst = bounded (a_type ∷ a_type ∷ a_type ∷ []) (X, (Y, (P, tt))) (dcons d dnil) in
    let c = f.clauses X Y P g d 𝓛 𝓜.mem 𝓡.returns in
    let v = vstruct (vcons vunit vnil) in
    proved 𝓛 En hs c 𝓜 𝓡 (
      Goes-none_ref 𝓛 5 (0 ∷ []) tt (plain (λ _. A)) yes,
      (Goes-none_ref 𝓛 5 (1 ∷ []) tt (plain (λ _. B)) yes, tt),
    )
    (f.Key.name inst) (inst_fn inst code.function)
    (code.unfolded 𝓤 𝓛.H 𝓜 𝓡 wired (X, (Y, (P, tt))) d)
    (λ κs. (shr_vals, (shr_vals, tt)))
    (λ κs. (shr_Tells (named 0) κs.0 A, (shr_Tells (named 1) κs.1.0 B, tt)))
    (λ κs qs bounds a n are.
    let y : (walk_of 𝓛 En hs c).Ghost =
    ((κs, qs, bounds, a, (shr_vals a.0, (shr_vals a.1.0, tt))), n) in
    let after = g.picked in
    qed 𝓛 ((raw (alive 𝓛 En.signature κs qs) ⊛ ‵ (owns (types_at En.signature.params κs) a y.0.4))
    ∷ raw ((c κs a).requires n) ∷ []) ∵
    split ! $ keep ! (0 ∷ 1 ∷ []) $
    enter ! _ _ _ _ _ $ alloc_all ! (λ l. pass_all ! refl ((tt, tt), ((tt, tt), tt)) $
    sets ! (agg ! (and_then ! (unit_lit !) (no_more !))) refl (tt, (tt, tt)) $
    returns ! (look_at ! 0 refl) $ free_all ! refl $
    suffices ! _ (ends_at 𝓛 En hs c y v after (tt, (tt, tt)) (tt, (tt, tt))) $ says ! refl $
    pure_i ! (R.own_val after (v ∷ [])) (λ x. (((λ vss. (tt, (tt, tt))), tt), tt)) (
      (record { seal = tt; reports = after }, (refl, tt)),
      ((((vunit ∷ [], tt), (refl, (refl, tt))), tt), tt),
    ) $
    move ! (1 ∷ 2 ∷ 0 ∷ []) $ done !))
