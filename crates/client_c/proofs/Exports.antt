-- What an export does to the value at its pointer is what the library's function does to it: one
-- lemma for the call, one for what all exports share, and a walk for each form of arguments. The
-- code of two exports of one form differs in the function that it calls.
use Rattle.std.proofs.Common.{ℕ, suc, List, [], ◌∷◌, ◌++◌, length, refl, w64}
use Rattle.std.proofs.raw_atomic.Walks.{leaves, proved}
use seplogic.Ra.Ura.{Ura}
use base.Fraction.{full_share}
use base.Fml.{Lft, Fml, GName, ftrue, fsep, flft, fres, fbor, flent}
use base.Logic.{SProp, ent, sep, emp, ex, via, snd∗, never, never_e, id⊢}
use mir.Syntax.{Fn, Callee, Ty, Place, Body as Code, Opd as Operand, local, value_local, ty_int}
use mir.Syntax.{ty_ptr, ty_ref, erased, mut, named, assign, rv_opd, addr_of, deref, copy, place}
use mir.Syntax.{call, seq, return}
use mir.Val.{Val, vint, vptr, WT, has_ty}
use prog.Model.{Model}
use prog.Wp.{Env, Calls, Loops, WpFn, Closed}
use types.Logic.{Logic, sem}
use types.SemTy.{Body}
use types.Kit.{Item, Seq, Post, runs, lands, mean, ‵, raw, ◌⊛◌, some, later, ◌$◌, ◌∵◌, !, qed, by}
use types.Kit.{move, drop, use1, use3, split, join, pick, fsplit, fjoin, show, await, done}
use types.Tokens.{lft_new, lft_end}
use types.Run.{Opds, stop, addr, of_opd, and_then, no_more, returns, enter}
use types.ByLocal.{alloc_all, pass_all, free_all, look_at, get, through, sets, lands_as}
use contract.Monad.{fact}
use contract.Lifetimes.{Lfts, Shares, AllOutlive, toks}
use contract.Running.{Running, MachineTables, tables}
unfoldable use contract.Running.{tables_of}
use sound.WpLaws.{FmC, fm_of}
use denote.Builtin.{u8, u64, SliceRefOf}
use denote.Exit.{yes, Last}
use denote.Laws.{Is, Ises, Are, Spells, Tells, Tellss, valss, shows}
use denote.Lend.{lends_ref, ref_back}
use denote.Memory.{part_at, mem, lone}
use denote.Plain.{uint_Lawful, uint_Tells}
use denote.RattleType.{RattleType, Denots, Valss, flat, owns}
use denote.RawPtr.{Ptr, block_ptr, null_ptr, RawPtr, rawptr_vals, rawptr_Tells, lies_at}
use denote.Ref.{MutBor, MutRef}
use denote.Signature.{Slot, AllWithin, plain, mut_ref_to, types_at}
use denote.Slice.{ShrSlice, slice_val, shr_slice_vals, shr_slice_Tells}
use denote.Steps.{peeks, heard, nothing}
use denote.Triple.Call.{calls_from}
use denote.Triple.Clauses.{Ended, Clauses, closing}
use denote.Triple.End.{Kepts, Fins, Outs, outs}
use denote.Triple.Entry.{on_entry}
use denote.Triple.Spec.{Meets, triple_of}
use denote.Triple.Statement.{Contract, Triple}
use denote.Triple.Walked.{says, Stays, fits_of, has_of, stay_dropped, AllGo, Goes, Goes-dropped}
use denote.Triple.Walked.{walk_of}
use lib.Dec.{T}

module _ (R : RattleType) {M : Type 1} {𝓤 : Ura M} (𝓛 : Logic 𝓤) where
  open 𝓛 use {H}

  -- the value lies at p as the call left it
  abbrev pub There : Ptr → (R.Denot → Type 0) → SProp 𝓤
  There p did = ex 𝓤 (λ new. sep 𝓤 (sem 𝓛 (lies_at R full_share p new)) (fact 𝓤 (did new)))

  tells : (b o : ℕ) (did : R.Denot → Type 0) (new : R.Denot) → did new
      → ent 𝓤 (sem 𝓛 (part_at R full_share new b o)) (There (block_ptr b o) did)
  tells b o did new is = qed 𝓛 (‵ (part_at R full_share new b o) ∷ []) ∵
      show ! (λ x. sep 𝓤 (sem 𝓛 (part_at R full_share x b o)) (fact 𝓤 (did x))) new $
      says ! is $ done !

  -- ---- the call: the value at (b, o) is lent for it. Beside it stand the tokens, the other
  -- arguments, and what is said of their last values
  abbrev pub lent_ref : ℕ → ℕ → R.Denot → GName → MutBor R.Denot
  lent_ref b o old γ = record { ref_ptr = (b, o); ghost_name = γ; now = old }

  abbrev before : SProp 𝓤 → Fml → ℕ → ℕ → R.Denot → ℕ → GName → SProp 𝓤
  before ts args b o old α γ = sep 𝓤 (sep 𝓤 (sep 𝓤 (sem 𝓛 (flft (α ∷ []) full_share)) ts) (sem 𝓛
      (fsep ((MutRef (named 0) (α ∷ []) R).own_val (lent_ref b o old γ) (vptr b o ∷ [])) args)))
      (emp 𝓤)

  abbrev after : SProp 𝓤 → (W : Type 0) → (W → Fml) → (ℕ → W → R.Denot → Type 0) → ℕ → ℕ → ℕ
      → GName → Val → Item 𝓤
  after ts W last Did b o α γ v = later (some (λ (r : ℕ).
      ((‵ (flft (α ∷ []) full_share) ⊛ raw ts) ⊛ ‵ (u64.own_val r (v ∷ [])))
      ⊛ some (λ (ws : R.Denot × W). ‵ (fsep (fsep (fres γ (R.coded.code ws.0))
      (fbor (α ∷ []) (Body (mem R) b o γ))) (last ws.1)) ⊛ raw (fact 𝓤 (Did r ws.1 ws.0)))))

  pub record Lent (C : Calls 𝓤 H) (callee : Callee) (ts : SProp 𝓤) (args : Fml) (vs : List Val)
      (W : Type 0) (last : W → Fml) (Did : ℕ → W → R.Denot → Type 0) (b o : ℕ)
      (old : R.Denot) : Type 1 where
    pub met : (α : ℕ) (γ : GName) → ent 𝓤 (before ts args b o old α γ)
        (C callee (vptr b o ∷ vs) (λ v. mean 𝓛 (after ts W last Did b o α γ v)))

  module _ {C : Calls 𝓤 H} {callee : Callee} {ts : SProp 𝓤} {args : Fml} {vs : List Val}
      {W : Type 0} {last : W → Fml} {Did : ℕ → W → R.Denot → Type 0} {b o : ℕ} {old : R.Denot}
      {K : Type 0} {Γ : List (Item 𝓤)} {E : Env 𝓤 H} {Λ : Loops 𝓤 H} {q : Post 𝓤 H}
      {d : Place} {xs : List Operand} {rest : Code} where
    pub lent_call : K → FmC 𝓤 H 𝓛.laws C → Lent C callee ts args vs W last Did b o old
        → ((α : ℕ) (γ : GName) → Opds K 𝓛 (raw (before ts args b o old α γ)
        ∷ ‵ (flent (α ∷ []) (Body (mem R) b o γ)) ∷ Γ) E xs (vptr b o ∷ vs))
        → ((v : Val) (r : ℕ) (w : W) → Is u64 r (v ∷ []) → Seq K 𝓛 (‵ (u64.own_val r (v ∷ []))
        ∷ raw (There (block_ptr b o) (Did r w)) ∷ raw ts ∷ ‵ (last w) ∷ Γ)
        (lands C Λ E d v rest q))
        → Seq K 𝓛 (raw ts ∷ ‵ args ∷ ‵ (part_at R full_share old b o) ∷ Γ)
        (runs C Λ E (seq (call callee xs d) rest) q)
    lent_call t fm known os k = lft_new t tt (λ α. let κ : Lft = α ∷ [] in
        move t (3 ∷ []) $ use1 𝓛 (later (some (λ (γ : GName).
        ‵ ((MutRef (named 0) κ R).own_val (lent_ref b o old γ) (vptr b o ∷ []))
        ⊛ ‵ (flent κ (Body (mem R) b o γ))))) (lends_ref 𝓛 R (named 0) κ old b o) $
        await t tt $ pick t (λ γ. split t $
        -- the reference and the other arguments, the tokens
        move t (0 ∷ 4 ∷ []) $ fjoin t $ move t (2 ∷ 3 ∷ []) $ join t $ join t $
        nothing t $ move t (1 ∷ 0 ∷ []) $ join t $
        use1 𝓛 (raw (before ts args b o old α γ)) (id⊢ 𝓤 _) $
        calls_from t fm (raw (before ts args b o old α γ)) (vptr b o ∷ vs)
        (λ v. mean 𝓛 (after ts W last Did b o α γ v)) (known.met α γ) (os α γ) (λ v.
        use1 𝓛 (after ts W last Did b o α γ v) (id⊢ 𝓤 _) $ await t tt $
        pick t (λ r. split t $ move t (1 ∷ []) $ pick t (λ ws. split t $ move t (1 ∷ []) $
        heard t (Did r ws.1 ws.0) (λ is.
        -- the loan ends: the value lies there as the reference left it
        fsplit t $ fsplit t $ move t (1 ∷ []) $ drop t $ move t (2 ∷ []) $ split t $ split t $
        lft_end t tt $ move t (0 ∷ 5 ∷ 3 ∷ []) $
        use3 𝓛 (later (‵ (part_at R full_share ws.0 b o))) (ref_back 𝓛 R κ γ ws.0 b o) $
        await t tt $ use1 𝓛 (raw (There (block_ptr b o) (Did r ws.1)))
        (tells b o (Did r ws.1) ws.0 is) $ move t (2 ∷ []) $
        peeks t u64 (Is u64) (shows 𝓛 u64) r (v ∷ []) (λ good. k v r ws.1 good)))))))

  -- ---- an export: a pointer, and other parameters at the slots ss
  module _ (n : ℕ) (ss : List (Slot n)) (ks : Kepts ss) (hs : Stays ss ks)
      (Did : (κs : Lfts n) → Denots (types_at ss κs) → Outs κs ss ks
      → R.Denot → ℕ → R.Denot → Type 0) where
    abbrev pub Told : Ended
    Told = record {
      signature = record {
        lifetimes = n;
        outlives = [];
        params = plain (λ _. RawPtr) ∷ ss;
        result = plain (λ _. u64);
      };
      kept = (yes, ks);
    }

    abbrev stayed : Stays Told.signature.params Told.kept
    stayed = (stay_dropped (plain (λ _. RawPtr)) yes, hs)

    abbrev pub clauses : Clauses 𝓤 Told
    clauses κs a = record {
      ghost = R.Denot;
      requires = λ old. sem 𝓛 (lies_at R full_share a.0 old);
      ensures = λ old r e. There a.0 (Did κs a.1 e.1 old r);
    }

    module _ (κs : Lfts n) (qs : Shares n) (bounds : AllOutlive n [] κs)
        (a : Denots (types_at ss κs)) (vss : Valss (types_at ss κs)) (old : R.Denot) where
      abbrev bound : Ptr → (walk_of 𝓛 Told stayed clauses).Ghost
      bound p = ((κs, qs, bounds, (p, a), (rawptr_vals p, vss)), old)

      -- a run of an export's code from its entry
      abbrev Run : Calls 𝓤 H → Loops 𝓤 H → Fn → Ptr → Type 1
      Run C Λ fn p = ent 𝓤 (sep 𝓤 (on_entry 𝓛 Told.signature κs qs (p, a) (rawptr_vals p, vss))
          (sem 𝓛 (lies_at R full_share p old))) (WpFn 𝓤 H C Λ fn
          (rawptr_vals p ++ flat (types_at ss κs) vss)
          ((walk_of 𝓛 Told stayed clauses).post (bound p)))

      at_each : (C : Calls 𝓤 H) (Λ : Loops 𝓤 H) (fn : Fn)
          → ((b o : ℕ) → Run C Λ fn (block_ptr b o)) → (p : Ptr) → Run C Λ fn p
      at_each C Λ fn walk (block_ptr b o) = walk b o
      at_each C Λ fn walk null_ptr = via 𝓤 (never 𝓤) (snd∗ 𝓤 (on_entry 𝓛 Told.signature κs qs
          (null_ptr, a) (rawptr_vals null_ptr, vss)) (never 𝓤)) (never_e 𝓤 _)

      pub ends : (p : Ptr) (v : Val) (r : ℕ) (ws : Fins κs ss ks a) → fits_of κs ss ks hs a ws
          → ent 𝓤 (sep 𝓤 (sem 𝓛 (u64.own_val r (v ∷ [])))
          (sep 𝓤 (There p (Did κs a (outs κs ss ks a ws) old r))
          (sep 𝓤 (toks 𝓛 n κs qs) (sem 𝓛 (has_of κs ss ks hs a ws vss)))))
          ((walk_of 𝓛 Told stayed clauses).post (bound p) v)
      ends p v r ws fits = qed 𝓛 (‵ (u64.own_val r (v ∷ []))
          ∷ raw (There p (Did κs a (outs κs ss ks a ws) old r)) ∷ raw (toks 𝓛 n κs qs)
          ∷ ‵ (has_of κs ss ks hs a ws vss) ∷ []) ∵
          move ! (3 ∷ []) $ nothing ! $ fjoin ! $ move ! (3 ∷ 0 ∷ 1 ∷ 2 ∷ []) $
          by ! (leaves 𝓛 Told stayed clauses (bound p) v r (tt, ws) (tt, fits))

    module _ (𝓜 : Model 𝓤 𝓛.H) (𝓡 : Running 𝓤 𝓛.H 𝓜) where
      abbrev 𝓣 : MachineTables 𝓤 𝓛.H 𝓜
      𝓣 = tables 𝓤 𝓛.H 𝓜 𝓡 𝓡.env

      pub exported : AllGo 𝓛 n ss ks hs → (fn : Fn) (key : Callee) → Closed 𝓤 H 𝓣.C 𝓣.Λ key fn
          → (sp : (κs : Lfts n) → Spells (types_at ss κs))
          → ((κs : Lfts n) → Tellss (types_at ss κs) (Ises (types_at ss κs)) (sp κs))
          → (FmC 𝓤 H 𝓛.laws 𝓣.C → (κs : Lfts n) (qs : Shares n) (bounds : AllOutlive n [] κs)
          (a : Denots (types_at ss κs)) (old : R.Denot)
          → Are (types_at ss κs) (Ises (types_at ss κs)) a (valss (types_at ss κs) (sp κs) a)
          → (b o : ℕ) → Run κs qs bounds a (valss (types_at ss κs) (sp κs) a) old
          𝓣.C 𝓣.Λ fn (block_ptr b o)) → Meets 𝓛 Told.signature (𝓣.C key) (closing 𝓛 Told clauses)
      unfolding tables_of
      exported go fn key closed sp spelled walk =
          let fm = fm_of 𝓤 𝓛.H 𝓛.laws (tables_of 𝓤 𝓛.H 𝓜 𝓣) in
          proved 𝓛 Told stayed clauses 𝓜 𝓡
          (Goes-dropped 𝓛 n (plain (λ _. RawPtr)) yes (λ κs x f. refl), go) key fn closed
          (λ κs. (rawptr_vals, sp κs)) (λ κs. (rawptr_Tells, spelled κs))
          (λ κs qs bounds a old are. at_each κs qs bounds a.1 _ old 𝓣.C 𝓣.Λ fn
          (walk fm κs qs bounds a.1 old are.1) a.0)

-- what the library's function ensures, at a reference and other parameters
module _ (R : RattleType) {M : Type 1} {𝓤 : Ura M} (𝓛 : Logic 𝓤) (n : ℕ)
    (ss : List (Slot (suc n))) (ks : Kepts ss)
    (Did : (κs : Lfts (suc n)) → Denots (types_at ss κs) → Outs κs ss ks
    → R.Denot → ℕ → R.Denot → Type 0) where
  abbrev ended : Ended
  ended = record {
    signature = record {
      lifetimes = suc n;
      outlives = [];
      params = mut_ref_to (0 ∷ []) tt (plain (λ _. R)) ∷ ss;
      result = plain (λ _. u64);
    };
    kept = (yes, ks);
  }

  abbrev pub Asked : Contract 𝓤
  Asked = triple_of 𝓛 ended.signature (closing 𝓛 ended (λ κs a. record {
    ghost = Unit {0};
    requires = λ _. emp 𝓤;
    ensures = λ _ r e. fact 𝓤 (Did κs a.1 e.1 a.0.now r e.0.now);
  }))

-- ---- the pointer alone. How the value's type is written makes no difference to the code.
abbrev alone : Ty → Ty → Callee → Fn
alone lent value callee = record {
  lifetimes = 0;
  outlives = [];
  ty_params = [];
  givens = 0;
  params = 1;
  locals = local (ty_int w64) value_local ∷ local ty_ptr value_local
      ∷ local (ty_ref erased mut lent) value_local ∷ local ty_ptr value_local
      ∷ local (ty_ref erased mut lent) value_local ∷ [];
  body = seq (assign (place 3 []) (rv_opd (copy (place 1 []))))
      (seq (assign (place 2 []) (addr_of (place 3 (deref value ∷ []))))
      (seq (assign (place 4 []) (addr_of (place 2 (deref value ∷ []))))
      (seq (call callee (copy (place 4 []) ∷ []) (place 0 [])) return)));
}

-- and one more argument, whose type is written τ
abbrev with_one : ℕ → Ty → Ty → Ty → Callee → Fn
with_one n τ lent value callee = record {
  lifetimes = n;
  outlives = [];
  ty_params = [];
  givens = 0;
  params = 2;
  locals = local (ty_int w64) value_local ∷ local ty_ptr value_local
      ∷ local τ value_local ∷ local (ty_ref erased mut lent) value_local
      ∷ local ty_ptr value_local ∷ local (ty_ref erased mut lent) value_local ∷ [];
  body = seq (assign (place 4 []) (rv_opd (copy (place 1 []))))
      (seq (assign (place 3 []) (addr_of (place 4 (deref value ∷ []))))
      (seq (assign (place 5 []) (addr_of (place 3 (deref value ∷ []))))
      (seq (call callee (copy (place 5 []) ∷ copy (place 2 []) ∷ []) (place 0 [])) return)));
}

module _ (R : RattleType) {M : Type 1} {𝓤 : Ura M} (𝓛 : Logic 𝓤) (𝓜 : Model 𝓤 𝓛.H)
    (𝓡 : Running 𝓤 𝓛.H 𝓜) (lent value : Ty) (key callee : Callee) where
  abbrev Ran : MachineTables 𝓤 𝓛.H 𝓜
  Ran = tables 𝓤 𝓛.H 𝓜 𝓡 𝓡.env

  module _ (Did : R.Denot → ℕ → R.Denot → Type 0) where
    abbrev did_alone : Lfts 0 → Unit {0} → Unit {0} → R.Denot → ℕ → R.Denot → Type 0
    did_alone κs a e = Did

    pub alone_exported : Closed 𝓤 𝓛.H Ran.C Ran.Λ key (alone lent value callee)
        → Triple 𝓤 (Ran.C callee) (Asked R 𝓛 0 [] tt (λ κs a e. Did))
        → Meets 𝓛 (Told R 𝓛 0 [] tt tt did_alone).signature (Ran.C key)
        (closing 𝓛 (Told R 𝓛 0 [] tt tt did_alone) (clauses R 𝓛 0 [] tt tt did_alone))
    alone_exported closed known = exported R 𝓛 0 [] tt tt did_alone 𝓜 𝓡 tt
        (alone lent value callee) key closed (λ κs. tt) (λ κs. tt)
        (λ fm κs qs bounds a old are b o.
        let asks : Lent R 𝓛 Ran.C callee (emp 𝓤) ftrue [] (Unit {0}) (λ w. ftrue)
        (λ r w. Did old r) b o old = record {
          met = λ α γ. known (
            (
              (α ∷ [], tt),
              (full_share, tt),
              tt,
              (lent_ref R 𝓛 b o old γ, tt),
              (vptr b o ∷ [], tt),
            ),
            tt,
          );
        } in
        qed 𝓛 ((raw (emp 𝓤) ⊛ ‵ (owns (RawPtr ∷ []) (block_ptr b o, tt)
        (rawptr_vals (block_ptr b o), tt))) ∷ ‵ (part_at R full_share old b o) ∷ []) ∵
        enter ! Ran.C Ran.Λ (alone lent value callee) (vptr b o ∷ []) _ $
        alloc_all ! (λ l. pass_all ! refl ((tt, tt), tt) $
        split ! $ move ! (1 ∷ []) $ fsplit ! $ drop ! $ move ! (1 ∷ []) $
        sets ! (of_opd ! (get ! refl)) refl (tt, tt) $
        sets ! (addr ! (through ! refl (stop !))) refl (tt, tt) $
        sets ! (addr ! (through ! refl (stop !))) refl (tt, tt) $
        lent_call R 𝓛 ! fm asks (λ α γ. and_then ! (get ! refl) (no_more !))
        (λ v r w good. lands_as ! refl refl ((uint_Lawful 𝓛 w64).typed r _ good).0 $
        returns ! (look_at ! 0 refl) $ free_all ! refl $
        by ! (ends R 𝓛 0 [] tt tt did_alone κs qs bounds a tt old (block_ptr b o) v r tt tt))))

  -- ---- one more argument, at the slot s, of which nothing is wanted at the exit
  module _ {n : ℕ} (s : Slot n)
      (Did : (κs : Lfts n) → (s.row κs).Denot → R.Denot → ℕ → R.Denot → Type 0) where
    abbrev did_one : (κs : Lfts n) → Denots (types_at (s ∷ []) κs) → Outs κs (s ∷ []) (yes, tt)
        → R.Denot → ℕ → R.Denot → Type 0
    did_one κs a e = Did κs a.0

    abbrev drops_one : Stays (s ∷ []) (yes, tt)
    drops_one = (stay_dropped s yes, tt)

    abbrev pub One : Type 1
    One = Meets 𝓛 (Told R 𝓛 n (s ∷ []) (yes, tt) drops_one did_one).signature (Ran.C key)
        (closing 𝓛 (Told R 𝓛 n (s ∷ []) (yes, tt) drops_one did_one)
        (clauses R 𝓛 n (s ∷ []) (yes, tt) drops_one did_one))

    one_exported : (τ : Ty) (word : (κs : Lfts n) → (s.row κs).Denot → Val)
        → ((κs : Lfts n) → Tells (s.row κs) (Is (s.row κs)) (λ x. word κs x ∷ []))
        → ((κs : Lfts n) (x : (s.row κs).Denot) → Is (s.row κs) x (word κs x ∷ [])
        → T (has_ty τ (word κs x)) × WT (word κs x))
        → ((κs : Lfts n) (x : (s.row κs).Denot) → Last ((s.row κs).exit yes) x)
        → Goes 𝓛 n s yes (stay_dropped s yes)
        → Closed 𝓤 𝓛.H Ran.C Ran.Λ key (with_one n τ lent value callee)
        → ((κs : Lfts n) (qs : Shares n) (x : (s.row κs).Denot) (b o : ℕ) (old : R.Denot)
        → Lent R 𝓛 Ran.C callee (toks 𝓛 n κs qs)
        (owns (s.row κs ∷ []) (x, tt) (word κs x ∷ [], tt)) (word κs x ∷ [])
        (Unit {0} × Unit {0}) (λ w. fsep ftrue ftrue) (λ r w. Did κs x old r) b o old)
        → One
    one_exported τ word spelled typed none go closed known =
        exported R 𝓛 n (s ∷ []) (yes, tt) drops_one did_one 𝓜 𝓡 (go, tt)
        (with_one n τ lent value callee) key closed (λ κs. (λ x. word κs x ∷ [], tt))
        (λ κs. (spelled κs, tt)) (λ fm κs qs bounds a old are b o.
        qed 𝓛 ((raw (toks 𝓛 n κs qs) ⊛ ‵ (owns (RawPtr ∷ s.row κs ∷ []) (block_ptr b o, a)
        (rawptr_vals (block_ptr b o), (word κs a.0 ∷ [], tt))))
        ∷ ‵ (part_at R full_share old b o) ∷ []) ∵
        enter ! Ran.C Ran.Λ (with_one n τ lent value callee) (vptr b o ∷ word κs a.0 ∷ []) _ $
        alloc_all ! (λ l. pass_all ! refl ((tt, tt), (typed κs a.0 are.0, tt)) $
        split ! $ move ! (1 ∷ []) $ fsplit ! $ drop ! $ move ! (1 ∷ []) $
        sets ! (of_opd ! (get ! refl)) refl (tt, tt) $
        sets ! (addr ! (through ! refl (stop !))) refl (tt, tt) $
        sets ! (addr ! (through ! refl (stop !))) refl (tt, tt) $
        lent_call R 𝓛 ! fm (known κs qs a.0 b o old)
        (λ α γ. and_then ! (get ! refl) (and_then ! (get ! refl) (no_more !)))
        (λ v r w good. lands_as ! refl refl ((uint_Lawful 𝓛 w64).typed r _ good).0 $
        returns ! (look_at ! 0 refl) $ free_all ! refl $
        by ! (ends R 𝓛 n (s ∷ []) (yes, tt) drops_one did_one κs qs bounds a
        (word κs a.0 ∷ [], tt) old (block_ptr b o) v r (none κs a.0, tt) (tt, tt)))))

  module _ (Did : ℕ → R.Denot → ℕ → R.Denot → Type 0) where
    pub number_exported : Closed 𝓤 𝓛.H Ran.C Ran.Λ key
        (with_one 0 (ty_int w64) lent value callee)
        → Triple 𝓤 (Ran.C callee)
        (Asked R 𝓛 0 (plain (λ _. u64) ∷ []) (yes, tt) (λ κs a e. Did a.0))
        → One {n = 0} (plain (λ _. u64)) (λ κs. Did)
    number_exported closed known = one_exported (plain (λ _. u64)) (λ κs. Did) (ty_int w64)
        (λ κs n. vint w64 n) (λ κs. uint_Tells w64)
        (λ κs n is. ((uint_Lawful 𝓛 w64).typed n _ is).0) (λ κs n. tt)
        (Goes-dropped 𝓛 0 (plain (λ _. u64)) yes (λ κs x f. refl)) closed
        (λ κs qs n b o old. record {
          met = λ α γ. known (
            (
              (α ∷ [], tt),
              (full_share, tt),
              tt,
              (lent_ref R 𝓛 b o old γ, (n, tt)),
              (vptr b o ∷ [], (vint w64 n ∷ [], tt)),
            ),
            tt,
          );
        })

  abbrev bytes : {n : ℕ} (k : ℕ) → AllWithin n (k ∷ []) → Slot n
  bytes k ok = SliceRefOf (k ∷ []) ok (plain (λ _. u8)) (λ _. tt)

  module _ (Did : List ℕ → R.Denot → ℕ → R.Denot → Type 0) where
    pub bytes_exported : Closed 𝓤 𝓛.H Ran.C Ran.Λ key
        (with_one 1 (lone (ShrSlice (named 0) [] u8).mir) lent value callee)
        → Triple 𝓤 (Ran.C callee)
        (Asked R 𝓛 1 (bytes 1 tt ∷ []) (yes, tt) (λ κs a e. Did a.0.now))
        → One {n = 1} (bytes 0 tt) (λ κs bs. Did bs.now)
    bytes_exported closed known = one_exported (bytes 0 tt) (λ κs bs. Did bs.now)
        (lone (ShrSlice (named 0) [] u8).mir)
        (λ κs s. slice_val s.ref_ptr (length s.now)) (λ κs. shr_slice_Tells (named 0) κs.0 u8)
        (λ κs s is. (tt, (tt, (record { fits = is.0.1.0 }, tt)))) (λ κs s. tt)
        (Goes-dropped 𝓛 1 (bytes 0 tt) yes (λ κs x f. refl)) closed
        (λ κs qs s b o old. record {
          met = λ α γ. known (
            (
              (α ∷ [], κs),
              (full_share, qs),
              tt,
              (lent_ref R 𝓛 b o old γ, (s, tt)),
              (vptr b o ∷ [], (shr_slice_vals s, tt)),
            ),
            tt,
          );
        })
