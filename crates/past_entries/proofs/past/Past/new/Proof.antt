-- `new` makes a value of no bytes, which stands for the empty list.
use Rattle.std.proofs.Common.{[], ◌∷◌, refl}
use Rattle.std.proofs.raw_atomic.Walks.{proved}
use mir.Syntax.{a_type}
use mir.MapTy.{inst_fn}
use mir.Val.{vstruct, vcons, vnil}
use types.Kit.{raw, ‵, ◌⊛◌, ◌$◌, ◌∵◌, !, qed, keep, split, move, suffices, done}
use types.Run.{enter, and_then, no_more, returns}
use types.Part.{agg}
use types.ByLocal.{alloc_all, pass_all, free_all, look_at, get, sets}
use denote.RattleType.{RattleType, owns}
use denote.Param.{param, layouts}
use denote.Shadow.{pure_i}
use denote.Triple.Entry.{alive}
use denote.Triple.Walked.{says, Stays, walk_of, ends_at}
use Rattle.past_entries.specs.contracts.past.Past as past
use Rattle.past_entries.specs.contracts.past.Past.new as f
use Rattle.past_entries.proofs.past.Past.new.Statement.{statement}
use Rattle.past_entries.proofs.past.Past.new.Code as code

pub new_spec : {M : Type 1} → statement M
new_spec 𝓤 𝓛 𝓜 𝓡 wired T L =
    let R : RattleType = past.the_row (param 0 T) in
    let En = f.ended T in
    let hs : Stays En.signature.params En.kept = tt in
    let inst = layouts (a_type ∷ []) (T, tt) in
    let c = f.clauses T 𝓛 𝓜.mem 𝓡.returns in
    let v = vstruct (vcons (vstruct vnil) vnil) in
    proved 𝓛 En hs c 𝓜 𝓡 tt
    (f.Key.name inst) (inst_fn inst code.function) (code.unfolded 𝓤 𝓛.H 𝓜 𝓡 wired (T, tt))
    (λ κs. tt) (λ κs. tt) (λ κs qs bounds a n are.
    let y : (walk_of 𝓛 En hs c).Ghost = ((κs, qs, bounds, a, tt), n) in
    qed 𝓛 ((raw (alive 𝓛 En.signature κs qs) ⊛ ‵ (owns [] tt tt)) ∷ raw ((c κs a).requires n) ∷
    []) ∵
    split ! $ keep ! (0 ∷ 1 ∷ []) $
    enter ! _ _ _ _ _ $ alloc_all ! (λ l. pass_all ! refl tt $
    sets ! (agg ! (no_more !)) refl (tt, tt) $
    sets ! (agg ! (and_then ! (get ! refl) (no_more !))) refl (tt, (tt, tt)) $
    returns ! (look_at ! 0 refl) $ free_all ! refl $
    suffices ! _ (ends_at 𝓛 En hs c y v [] tt tt) $ says ! refl $
    pure_i ! (R.own_val [] (v ∷ [])) (λ x. (((λ vss. (tt, ((λ uss. (tt, tt)), tt))), tt), tt)) (
      (record { of = record {}; entries = [] }, (refl, tt)),
      (
        (
          (
            (vstruct vnil ∷ [], tt),
            (
              refl,
              ((tt, (refl, tt)), tt),
            ),
          ),
          tt,
        ),
        tt,
      ),
    ) $
    move ! (1 ∷ 2 ∷ 0 ∷ []) $ done !))
