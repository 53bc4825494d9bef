-- `zeovalki_answer` meets its contract: a walk of its MIR, by hand.
use Rattle.client_c.proofs.Exports.{Lent, ends, exported, lent_call, lent_ref}
use Rattle.std.proofs.Common.{ℕ, ◌<◌, ◌^◌, List, [], ◌∷◌, length, refl, w64}
use base.Fml.{Fml, fsep, ftrue}
use base.Fraction.{full_share}
use mir.Syntax.{named}
use mir.Val.{vptr}
use contract.Lifetimes.{toks}
use contract.Running.{tables}
use types.Kit.{‵, raw, ◌⊛◌, ◌$◌, ◌∵◌, !, qed, by, move, drop, split, fsplit, fjoin, feq_l}
use types.Run.{stop, fld, hop, from, addr, of_opd, and_then, no_more, returns, enter}
use types.Part.{agg, sub, whole}
use types.ByLocal.{alloc_all, pass_all, free_all, look_at, look_in_at, get, get_in}
use types.ByLocal.{through, sets, lands_as}
use denote.Builtin.{u8}
use denote.Exit.{left, yes}
use denote.Memory.{part_at}
use denote.Plain.{uint_Lawful}
use denote.RattleType.{owns}
use denote.RawPtr.{block_ptr, RawPtr, rawptr_vals}
use denote.Signature.{mut_slice_of, plain}
use denote.Slice.{MutSlice, slice_val, mut_slice_vals, mut_slice_Tells}
use denote.Triple.Walked.{Stays, gave_slice, Goes-gave_slice}
use Rattle.client_library.specs.Foreign.{Copies}
use Rattle.client_library.specs.contracts.foreign.ForeignClient.{the_row}
use Rattle.client_library.proofs.foreign.ForeignClient.copy_answer.Met as of_thm
use Rattle.client_library.proofs.foreign.ForeignClient.copy_answer.Symbol.{name as #callee}
use Rattle.client_c.specs.contracts.zeovalki_answer.Key.{name as key}
use Rattle.client_c.proofs.zeovalki_answer.Statement.{statement}
use Rattle.client_c.proofs.zeovalki_answer.Code as code

pub zeovalki_answer_spec : {M : Type 1} → statement M
zeovalki_answer_spec 𝓤 𝓛 𝓜 𝓡 wired =
    let C = (tables 𝓤 𝓛.H 𝓜 𝓡 𝓡.env).C in let Λ = (tables 𝓤 𝓛.H 𝓜 𝓡 𝓡.env).Λ in
    let room = mut_slice_of (0 ∷ []) tt (plain {n = 1} (λ _. u8)) in
    let hs : Stays (room ∷ []) (yes, tt) = (gave_slice (0 ∷ []) tt (plain (λ _. u8)), tt) in
    exported the_row 𝓛 1 (room ∷ []) (yes, tt) hs
    (λ κs a e old r new. Copies old a.0.now r e.0.now new) 𝓜 𝓡
    (Goes-gave_slice 𝓛 1 0 tt (plain (λ _. u8)), tt) code.function key
    (code.unfolded 𝓤 𝓛.H 𝓜 𝓡 wired) (λ κs. (mut_slice_vals, tt))
    (λ κs. (mut_slice_Tells (named 0) κs.0 u8, tt)) (λ fm κs qs bounds a old are b o.
    let s = a.0 in let word = slice_val s.ref_ptr (length s.now) in
    let long : length s.now < 2 ^ 64 = are.0.0.1.0 in
    let args : Fml = owns (MutSlice (named 0) κs.0 u8 ∷ []) (s, tt) (mut_slice_vals s, tt) in
    let asks : Lent the_row 𝓛 C #callee (toks 𝓛 1 κs qs) args (word ∷ []) (List ℕ × Unit {0})
    (λ w. fsep (left ((MutSlice (named 0) κs.0 u8).exit yes) s w.0) ftrue)
    (λ r w. Copies old s.now r w.0) b o old = record {
      met = λ α γ. of_thm.met 𝓤 𝓛 𝓜 𝓡
          (code.calls-client_library::foreign::ForeignClient::copy_answer 𝓡.env wired) (
            (
              (α ∷ [], κs),
              (full_share, qs),
              tt,
              (lent_ref the_row 𝓛 b o old γ, (s, tt)),
              (vptr b o ∷ [], (mut_slice_vals s, tt)),
            ),
            tt,
          );
    } in
    qed 𝓛 ((raw (toks 𝓛 1 κs qs) ⊛ ‵ (owns (RawPtr ∷ MutSlice (named 0) κs.0 u8 ∷ [])
    (block_ptr b o, (s, tt)) (rawptr_vals (block_ptr b o), (mut_slice_vals s, tt))))
    ∷ ‵ (part_at the_row full_share old b o) ∷ []) ∵
    enter ! C Λ code.function (vptr b o ∷ word ∷ []) _ $
    alloc_all ! (λ l. pass_all ! refl ((tt, tt), ((tt, (tt, (record { fits = long }, tt))), tt)) $
    split ! $ move ! (1 ∷ []) $ fsplit ! $ drop ! $ move ! (1 ∷ []) $
    sets ! (of_opd ! (get ! refl)) refl (tt, tt) $
    sets ! (addr ! (through ! refl (stop !))) refl (tt, tt) $
    sets ! (addr ! (through ! refl (stop !))) refl (tt, tt) $
    -- the room as it was passed
    sets ! (addr ! (from ! (fld ! refl (hop ! (look_in_at ! 2 (sub ! 0 refl (whole !))) (stop !)))))
    refl (tt, tt) $
    sets ! (agg ! (and_then ! (get ! refl) (and_then ! (get_in ! (fld ! refl (stop !)) (sub ! 1 refl
    (whole !))) (no_more !)))) refl (tt, (tt, (record { fits = long }, tt))) $
    lent_call the_row 𝓛 ! fm asks
    (λ α γ. and_then ! (get ! refl) (and_then ! (get ! refl) (no_more !)))
    (λ v r w good. lands_as ! refl refl ((uint_Lawful 𝓛 w64).typed r _ good).0 $
    returns ! (look_at ! 0 refl) $ free_all ! refl $
    -- what is said of the room is kept for the exit
    move ! (3 ∷ []) $ fsplit ! $ fsplit ! $ fsplit ! $ move ! (1 ∷ []) $ feq_l ! (λ same. fjoin ! $
    fjoin ! $ move ! (1 ∷ 2 ∷ 3 ∷ 0 ∷ []) $ by ! (ends the_row 𝓛 1 (room ∷ []) (yes, tt) hs
    (λ κs a e old r new. Copies old a.0.now r e.0.now new) κs qs bounds a (mut_slice_vals s, tt) old
    (block_ptr b o) v r (w.0, tt) (same, tt))))))
