-- `from_parts` hands on what the parts own.
use Rattle.std.proofs.Common.{List, [], ◌∷◌, ◌++◌, refl, sym, subst}
use Rattle.std.proofs.raw_atomic.Walks.{proved_at}
use Rattle.std.proofs.alloc.Calls.{Goes-blank, token}
use Rattle.std.proofs.BoxSteps.Form.{Bx, B, D, R, τ, word, box_typed}
use Rattle.std.proofs.BoxSteps.Steps.{box_out}
use Rattle.std.specs.Prelude.{Some}
use base.Fml.{ftrue}
use base.Fraction.{full_share}
use mir.Raw.{raw as bare}
use denote.Memory.{part_at}
use base.Logic.{SProp, ent, id⊢}
use mir.Syntax.{impl, tnil, dnil}
use mir.Val.{Val, vptr, vstruct, vcons, vnil}
use contract.Running.{tables}
use prog.Wp.{WpFn}
use types.Kit.{⋆, Item, ‵, raw, ◌⊛◌, ◌$◌, ◌∵◌, !, qed, by, move, keep, use1, split, join}
use types.Kit.{fsplit, fjoin, fpack, feq_i, suffices, done}
use types.Part.{whole, sub, agg}
use types.Run.{stop, fld, of_opd, and_then, no_more, returns, enter}
use types.ByLocal.{alloc_all, pass_all, free_all, look_at, get, get_in, sets}
use denote.Exit.{yes}
use denote.RattleType.{RattleType, Valss, owns}
use denote.RawPtr.{RawPtr, block_ptr}
use denote.Signature.{types_at, plain}
use denote.Steps.{nothing}
use denote.Struct.Struct.{within}
use denote.Struct.Owning.{shape}
use denote.Triple.Walked.{says, Stays, stay_dropped, walk_of, ends_at}
use Rattle.std.specs.contracts.alloc.Global as global
use Rattle.std.specs.contracts.impls.GlobalAllocator.TheImpl.{ghosts, dict}
use Rattle.std.proofs.alloc.Global.TheLaws as global_laws
use Rattle.client_library.specs.contracts.foreign.ForeignClient.{the_row}
use Rattle.client_library.proofs.foreign.ForeignClient.TheLaws.{the_row_laws}
use Rattle.client_c.specs.contracts.pointer.ClientPointer as pointer
use Rattle.client_c.specs.contracts.pointer.parts.Parts as parts
use Rattle.client_c.specs.contracts.pointer.ClientPointer.from_parts as f
use Rattle.client_c.specs.contracts.pointer.ClientPointer.from_parts.Key.{name as key}
use Rattle.client_c.proofs.pointer.ClientPointer.from_parts.Statement.{statement}
use Rattle.client_c.proofs.pointer.ClientPointer.from_parts.Code as code

abbrev E : Bx
E = record {
  row = the_row;
  laws = the_row_laws;
  al = record {
    row = global.the_row;
    laws = global_laws.the_row_laws;
    g = ghosts;
    d = dict;
    drops = impl [] tnil dnil;
  };
}

abbrev Parts : RattleType
Parts = parts.the_row the_row global.the_row ghosts

abbrev stayed : Stays f.ended.signature.params f.ended.kept
stayed = (stay_dropped (plain (λ _. Parts)) yes, tt)

pub from_parts_spec : {M : Type 1} → statement M
from_parts_spec 𝓤 𝓛 𝓜 𝓡 wired =
    let 𝓣 = tables 𝓤 𝓛.H 𝓜 𝓡 𝓡.env in
    let c = f.clauses 𝓛 𝓜.mem 𝓡.returns in
    proved_at 𝓛 f.ended stayed c 𝓜 𝓡 (Goes-blank 𝓛 0 (plain (λ _. Parts)) yes (λ κs x f. tt), tt)
    key code.function (code.unfolded 𝓤 𝓛.H 𝓜 𝓡 wired) (λ z are.
    let v = z.0.3.0 in let vs = z.0.4.0 in
    let Post : Val → SProp 𝓤 = (walk_of 𝓛 f.ended stayed c).post z in
    let d : D E = record { ptr = v.ptr; alloc = v.alloc; value = v.value } in
    qed 𝓛 ((‵ ftrue ⊛ ‵ (owns (types_at f.signature.params tt) z.0.3 z.0.4))
    ∷ raw ((c tt z.0.3).requires z.1) ∷ []) ∵ split ! $ move ! (1 ∷ []) $ fsplit ! $
    use1 𝓛 (‵ ((B E).own_val d vs)) (id⊢ 𝓤 _) $
    box_out E ! d vs (λ b o hv e is fits.
    let out : pointer.the_row.Denot = record { at = block_ptr b o; client = Some v.value } in
    let at : Val = vstruct (vcons (vptr b o) vnil) in
    let Γ : List (Item 𝓤) = ‵ (part_at (R E) full_share v.value b o)
    ∷ ‵ (token E.al v.alloc (bare (τ E)) (block_ptr b o)) ∷ ‵ ftrue ∷ [] in
    keep ! (0 ∷ 1 ∷ 4 ∷ []) $
    by ! (subst (λ (ws : List Val). ent 𝓤 (⋆ 𝓛 Γ)
    (WpFn 𝓤 𝓛.H 𝓣.C 𝓣.Λ code.function (ws ++ []) Post)) (sym is) (qed 𝓛 Γ ∵
    enter ! 𝓣.C 𝓣.Λ code.function (word E hv b o ∷ []) _ $
    alloc_all ! (λ ls. pass_all ! refl (box_typed E hv b o fits, tt) $
    sets ! (of_opd ! (get_in ! (fld ! refl (stop !)) (sub ! 0 refl (whole !)))) refl (tt, tt) $
    sets ! (of_opd ! (get ! refl)) refl (tt, tt) $
    sets ! (agg ! (and_then ! (get ! refl) (no_more !))) refl (tt, (tt, tt)) $
    returns ! (look_at ! 0 refl) $ free_all ! refl $
    -- [the client and the right to free it; the tokens]
    fjoin ! $ nothing ! $ feq_i ! (List Val) (vptr b o ∷ []) (vptr b o ∷ []) refl $ fjoin ! $
    feq_i ! (List Val) (at ∷ []) (at ∷ []) refl $ fjoin ! $
    fpack ! (Valss (RawPtr ∷ [])) (within (shape pointer.the_type) (block_ptr b o, tt) (at ∷ []))
    (vptr b o ∷ [], tt) $ fjoin ! $ use1 𝓛 (‵ (pointer.the_row.own_val out (at ∷ []))) (id⊢ 𝓤 _) $
    suffices ! _ (ends_at 𝓛 f.ended stayed c z at out (tt, tt) (tt, tt)) $ says ! refl $
    nothing ! $ nothing ! $ fjoin ! $ join ! $ move ! (1 ∷ 0 ∷ []) $ join ! $ done !)))))
