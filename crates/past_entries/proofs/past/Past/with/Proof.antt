-- `with` makes a value of no bytes, which stands for the list with the entry.
use Rattle.std.proofs.Common.{[], ◌∷◌, refl}
use Rattle.std.proofs.raw_atomic.Walks.{proved}
use mir.Syntax.{a_type, named}
use mir.MapTy.{inst_fn}
use mir.Val.{vstruct, vcons, vnil}
use types.Kit.{raw, ‵, ◌⊛◌, ◌$◌, ◌∵◌, !, qed, keep, split, move, suffices, done}
use types.Run.{enter, and_then, no_more, returns}
use types.Part.{agg}
use types.ByLocal.{alloc_all, pass_all, free_all, look_at, get, sets}
use denote.Exit.{yes}
use denote.RattleType.{RattleType, owns}
use denote.Param.{param, layouts}
use denote.Ref.{shr_vals, shr_Tells}
use denote.Shadow.{pure_i}
use denote.Signature.{plain, types_at}
use denote.Triple.Entry.{alive}
use denote.Triple.Walked.{says, Stays, stay_none_ref, Goes-none_ref, walk_of, ends_at}
use Rattle.past_entries.specs.contracts.past.Past as past
use Rattle.past_entries.specs.contracts.past.Past.with as f
use Rattle.past_entries.proofs.past.Past.with.Statement.{statement}
use Rattle.past_entries.proofs.past.Past.with.Code as code

pub with_spec : {M : Type 1} → statement M
with_spec 𝓤 𝓛 𝓜 𝓡 wired T L =
    let E : RattleType = param 0 T in
    let R : RattleType = past.the_row E in
    let En = f.ended T in
    let hs : Stays En.signature.params En.kept = (
      stay_none_ref (0 ∷ []) tt (plain (λ _. R)) yes,
      (stay_none_ref (1 ∷ []) tt (plain (λ _. E)) yes, tt),
    ) in
    let inst = layouts (a_type ∷ []) (T, tt) in
    let c = f.clauses T 𝓛 𝓜.mem 𝓡.returns in
    let v = vstruct (vcons (vstruct vnil) vnil) in
    proved 𝓛 En hs c 𝓜 𝓡 (
      Goes-none_ref 𝓛 3 (0 ∷ []) tt (plain (λ _. R)) yes,
      (
        Goes-none_ref 𝓛 3 (1 ∷
            []) tt (plain (λ _. E)) yes,
        tt,
      ),
    )
    (f.Key.name inst) (inst_fn inst code.function) (code.unfolded 𝓤 𝓛.H 𝓜 𝓡 wired (T, tt))
    (λ κs. (shr_vals, (shr_vals, tt)))
    (λ κs. (shr_Tells (named 0) κs.0 R, (shr_Tells (named 1) κs.1.0 E, tt)))
    (λ κs qs bounds a n are.
    let y : (walk_of 𝓛 En hs c).Ghost = (
      (
        κs,
        qs,
        bounds,
        a,
        (
          shr_vals a.0,
          (
            shr_vals a.1.0,
            tt,
          ),
        ),
      ),
      n,
    ) in
    let after = a.1.0.now ∷ a.0.now in
    qed 𝓛 ((raw (alive 𝓛 En.signature κs qs) ⊛ ‵ (owns (types_at En.signature.params κs) a y.0.4))
    ∷ raw ((c κs a).requires n) ∷ []) ∵
    split ! $ keep ! (0 ∷ 1 ∷ []) $
    enter ! _ _ _ _ _ $ alloc_all ! (λ l. pass_all ! refl ((tt, tt), ((tt, tt), tt)) $
    sets ! (agg ! (no_more !)) refl (tt, tt) $
    sets ! (agg ! (and_then ! (get ! refl) (no_more !))) refl (tt, (tt, tt)) $
    returns ! (look_at ! 0 refl) $ free_all ! refl $
    suffices ! _ (ends_at 𝓛 En hs c y v after (tt, (tt, tt)) (tt, (tt, tt))) $ says ! refl $
    pure_i ! (R.own_val after (v ∷ [])) (λ x. (((λ vss. (tt, ((λ uss. (tt, tt)), tt))), tt), tt)) (
      (record { of = record {}; entries = after }, (refl, tt)),
      (
        (
          (
            (vstruct vnil ∷ [], tt),
            (
              refl,
              ((tt, (refl, tt)), tt),
            ),
          ),
          tt,
        ),
        tt,
      ),
    ) $
    move ! (1 ∷ 2 ∷ 0 ∷ []) $ done !))
