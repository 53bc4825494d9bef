-- What a client's log gets of what its end of a link reads.
use Rattle.std.proofs.Common.{◌≡◌, ℕ, List, [], ◌∷◌, ◌++◌, Bool, true, false, cond, Some, None}
use Rattle.std.proofs.Common.{Option, map, refl, sym, ap, subst, ◌∙◌, append_assoc}
use Rattle.std.proofs.Common.{append-nil, arith}
use Rattle.std.specs.Prelude.{◌||◌}
use Rattle.std.proofs.lemmas.List.{map-append}
use Rattle.resp_value.specs.Lists.{IsPrefix}
use Rattle.resp_value.specs.Tree.{Tree}
use Rattle.resp_value.specs.ValueTree.{tree_of, value_of}
use Rattle.resp_value.specs.declared.value.Value.{Value}
use Rattle.resp_value.proofs.OneToOne.{tree_back}
use Rattle.resp_stream.specs.Parse.{parse_values, values_of}
use Rattle.resp_stream.specs.Stream.{begun, fed}
use Rattle.shared_cache.specs.declared.log.ClientCall.{ClientCall}
use Rattle.shared_cache.specs.declared.log.ClientCall.TheVariants as call
use Rattle.shared_cache.specs.declared.log.ClientMode.{ClientMode}
use Rattle.shared_cache.specs.declared.log.ClientRefusal.{ClientRefusal}
use Rattle.shared_cache.specs.declared.log.ClientRefusal.TheVariants as refusal
use Rattle.shared_cache.specs.declared.log.LogEntry.{LogEntry}
use Rattle.shared_cache.specs.declared.log.LogEntry.TheVariants as entry
use Rattle.shared_cache.specs.declared.log.Shape.{Shape}
use Rattle.shared_cache.specs.declared.log.Wire.{Wire}
use Rattle.shared_cache.specs.declared.log.Wire.TheVariants.{Main, Side}
use Rattle.shared_cache.specs.Held.{Setup}
use Rattle.shared_cache.specs.Laws.{gots}
use Rattle.shared_cache.specs.Log.{ends_wire, is_ended, is_ready, is_wire}
use Rattle.shared_cache.specs.Steps.{ClientTurn, client_step, getting, is_log_full}
use Rattle.shared_cache.specs.Steps as steps
use Rattle.script_text.specs.declared.line.Line.{Line}
use Rattle.server_links.specs.Moves.{stopped_at}
use Rattle.server_links.specs.Outcome.{Outcome, and_then, does, stays, then_by}
use Rattle.server_links.proofs.FaultPlaces.{values_met}
use Rattle.world_run.specs.WorldState.{LinkEnd}
use Rattle.world_run.specs.Members.{Seat, log_of, setup_of, with_log}
use Rattle.world_run.specs.ClientMoves.{fault_of, got, got_all, got_one, has_ended, lines_of}
use Rattle.world_run.specs.ClientMoves.{next_read, read_values, rest_read, stop, turn}
use Rattle.world_run.specs.ReadLog.{ByEnd, ByValue, Ending, Going, IsGot, IsWell, ending}

-- ---- outcomes that meet no fault

abbrev pub Done : {S : Type 0} → (S → List Line → Type 0) → Outcome S → Type 0
Done Q m = m.fault ≡ None → Q m.state m.lines

pub done_then : {S : Type 0} → (P Q : S → List Line → Type 0) (m : Outcome S)
    (next : S → Outcome S) → Done P m
    → (P m.state m.lines → Done (λ s ls. Q s (m.lines ++ ls)) (next m.state))
    → Done Q (and_then m next)
unfolding and_then
done_then P Q m next a g = elim m.fault as (λ f. m.fault ≡ f
    → Done Q (then_by f m (next m.state))) [
      | Some f ↦ λ is e. absurd (let no : Some f ≡ None = sym is ∙ e in cc)
      | None ↦ λ is e. g (a is) e
    ] refl

pub done_if : {S : Type 0} → (Q : S → List Line → Type 0) (b : Bool) (m n : Outcome S)
    → (b ≡ true → Done Q m) → (b ≡ false → Done Q n) → Done Q (cond b m n)
done_if Q true m n f g = f refl
done_if Q false m n f g = g refl

pub done_turn : (Q : Seat → List Line → Type 0) (c : ClientCall) (e : LinkEnd) (s : Seat)
    → (let t = client_step (setup_of s) (log_of s) c in
    fault_of t.reply ≡ None → Q (with_log s t.past) (lines_of e s c t.reply))
    → Done Q (turn c e s)
unfolding turn and_then
done_turn Q c e s f none = f none

-- ---- whether a link has ended

abbrev pub is_over : Ending → Bool
is_over Going = false
is_over (ByValue v) = true
is_over ByEnd = true

own_wire : (w : Wire) → is_wire w w ≡ true
own_wire Main = refl
own_wire Side = refl

-- an end of a link ends it
ends_own : (shape : Shape) (u w : Wire) (ready : Bool) → is_wire u w ≡ true
    → ends_wire shape u w ready ≡ true
ends_own shape Main Main ready is = refl
ends_own shape Side Side ready is = refl
ends_own shape Main Side ready is = absurd (let no : false ≡ true = is in cc)
ends_own shape Side Main ready is = absurd (let no : false ≡ true = is in cc)

pub or_true : (b : Bool) → (b || true) ≡ true
or_true true = refl
or_true false = refl

by_wire : (own ends sooner : Bool) (e f : Ending) → (own ≡ true → ends ≡ true)
    → (is_over f ≡ true → sooner ≡ true) → is_over (cond own e f) ≡ true
    → (ends || sooner) ≡ true
by_wire true ends sooner e f own more over = ap (λ b. b || sooner) (own refl)
by_wire false ends sooner e f own more over = ap (λ b. ends || b) (more over) ∙ or_true ends

over_ended : (m : ClientMode) (w : Wire) (log : List LogEntry) → is_over (ending w log) ≡ true
    → is_ended m w log ≡ true
over_ended m w [] over = over
over_ended m w (entry.Ask q ∷ log) over = over_ended m w log over
over_ended m w (entry.Send words ∷ log) over = over_ended m w log over
over_ended m w (entry.Poll n ∷ log) over = over_ended m w log over
over_ended m w (entry.TakeOut u most ∷ log) over = over_ended m w log over
over_ended m w (entry.Got u v ∷ log) over = over_ended m w log over
over_ended m w (entry.End u ∷ log) over =
    by_wire (is_wire u w) (ends_wire m.shape u w (is_ready m log)) (is_ended m w log) ByEnd
    (ending w log) (ends_own m.shape u w (is_ready m log)) (over_ended m w log) over
over_ended m w (entry.Bad u v ∷ log) over =
    by_wire (is_wire u w) (ends_wire m.shape u w (is_ready m log)) (is_ended m w log) (ByValue v)
    (ending w log) (ends_own m.shape u w (is_ready m log)) (over_ended m w log) over

not_over : (e : Ending) → (is_over e ≡ true → ⊥) → e ≡ Going
not_over Going n = refl
not_over (ByValue v) n = absurd (n refl)
not_over ByEnd n = absurd (n refl)

pub going_is : (m : ClientMode) (w : Wire) (log : List LogEntry) → is_ended m w log ≡ false
    → ending w log ≡ Going
going_is m w log going =
    not_over (ending w log)
    (λ over. let no : true ≡ false = sym (over_ended m w log over) ∙ going in cc)

-- The link has ended only where it was read why: of two links one ends by the other's end too.
abbrev pub EndsByOwn : ClientMode → Wire → List LogEntry → Type 0
EndsByOwn m w log = is_ended m w log ≡ is_over (ending w log)

own_going : (m : ClientMode) (w : Wire) (log : List LogEntry) → is_ended m w log ≡ false
    → EndsByOwn m w log
own_going m w log going = going ∙ ap is_over (sym (going_is m w log going))

own_over : (m : ClientMode) (w : Wire) (log : List LogEntry) → is_over (ending w log) ≡ true
    → EndsByOwn m w log
own_over m w log over = over_ended m w log over ∙ sym over

-- ---- one entry more

ended_here : (w : Wire) (log : List LogEntry) → ending w (entry.End w ∷ log) ≡ ByEnd
ended_here w log = ap (λ b. cond b ByEnd (ending w log)) (own_wire w)

bad_here : (w : Wire) (v : Value) (log : List LogEntry)
    → ending w (entry.Bad w v ∷ log) ≡ ByValue v
bad_here w v log = ap (λ b. cond b (ByValue v) (ending w log)) (own_wire w)

got_here : (w : Wire) (v : Value) (log : List LogEntry)
    → gots w (entry.Got w v ∷ log) ≡ gots w log ++ v ∷ []
got_here w v log = ap (λ b. cond b (gots w log ++ v ∷ []) (gots w log)) (own_wire w)

-- ---- values are got

abbrev pub got_of : Wire → List LogEntry → List Tree
got_of w log = map tree_of (gots w log)

-- these are still to be got of them all
abbrev pub Toward : List Tree → List Tree → List Tree → Ending → Type 0
Toward all todo got Going = got ++ todo ≡ all
Toward all todo got (ByValue v) = IsPrefix (got ++ tree_of v ∷ []) all
Toward all todo got ByEnd = ⊥

module _ (e : LinkEnd) where
  -- a client at one of its ends
  module _ (all : List Tree) where
    abbrev Goes : ClientMode → List Tree → List LogEntry → Type 0
    Goes m todo log =
        EndsByOwn m e.wire log × Toward all todo (got_of e.wire log) (ending e.wire log)

    passed : (x : Tree) (todo got : List Tree) (how : Ending) → is_over how ≡ true
        → Toward all (x ∷ todo) got how → Toward all todo got how
    passed x todo got Going over k = absurd (let no : false ≡ true = over in cc)
    passed x todo got (ByValue v) over k = k
    passed x todo got ByEnd over k = k

    on_going : (todo : List Tree) (log : List LogEntry) → ending e.wire log ≡ Going
        → Toward all todo (got_of e.wire log) (ending e.wire log)
        → got_of e.wire log ++ todo ≡ all
    on_going todo log going k =
        subst (λ how. Toward all todo (got_of e.wire log) how) going k

    one_more : (x : Tree) (todo : List Tree) (gs : List Value)
        → map tree_of gs ++ x ∷ todo ≡ all → map tree_of (gs ++ value_of x ∷ []) ++ todo ≡ all
    one_more x todo gs is = grind (arith, map-append, tree_back, append_assoc)

    goes_getting : (x : Tree) (todo : List Tree) (m : ClientMode) (log : List LogEntry)
        (r : Option ClientRefusal) (full : Bool) → is_ended m e.wire log ≡ false
        → Goes m (x ∷ todo) log → let t = getting r e.wire (value_of x) full log in
        fault_of t.reply ≡ None → Goes m todo t.past
    goes_getting x todo m log (Some r) full going k none =
        let bad = bad_here e.wire (value_of x) log in (
          own_over m e.wire (entry.Bad e.wire (value_of x) ∷ log) (ap is_over bad),
          subst (Toward all todo (got_of e.wire log)) (sym bad)
              (subst (λ y. IsPrefix (got_of e.wire log ++ y ∷ []) all) (sym (tree_back x)) (
                todo,
                append_assoc (got_of e.wire log) (x ∷ []) todo
                    ∙ on_going (x ∷ todo) log (going_is m e.wire log going) k.1,
              )),
        )
    goes_getting x todo m log None true going k none = absurd (let no : ⊥ = cc in no)
    goes_getting x todo m log None false going k none =
        let on = going_is m e.wire log going in (
          k.0,
          subst (λ how. Toward all todo
              (map tree_of (gots e.wire (entry.Got e.wire (value_of x) ∷ log))) how) (sym on)
              (subst (λ gs. map tree_of gs ++ todo ≡ all)
              (sym (got_here e.wire (value_of x) log))
              (one_more x todo (gots e.wire log) (on_going (x ∷ todo) log on k.1))),
        )

    goes_turn : (x : Tree) (todo : List Tree) (s : Setup) (log : List LogEntry)
        → is_ended s.mode e.wire log ≡ false → Goes s.mode (x ∷ todo) log
        → let t = client_step s log (call.Got e.wire (value_of x)) in
        fault_of t.reply ≡ None → Goes s.mode todo t.past
    unfolding client_step
    goes_turn x todo s log going k =
        let t : ClientTurn = getting (steps.fault_of s log e.wire (value_of x)) e.wire (value_of x)
        (is_log_full s log) log in
        subst (λ b. let u : ClientTurn = cond b (steps.refusing (refusal.Down e.wire) log) t in
        fault_of u.reply ≡ None → Goes s.mode todo u.past) (sym going)
        (goes_getting x todo s.mode log (steps.fault_of s log e.wire (value_of x))
        (is_log_full s log) going k)

    abbrev Moves : List Tree → Seat → List Line → Type 0
    Moves todo t ls = Goes (setup_of t).mode todo (log_of t)

    goes_got : (x : Tree) (todo : List Tree) (s : Seat)
        → Goes (setup_of s).mode (x ∷ todo) (log_of s) → Done (Moves todo) (got (value_of x) e s)
    goes_got x todo s k =
        done_if (Moves todo) (has_ended e.wire s) (stays s)
        (turn (call.Got e.wire (value_of x)) e s)
        (λ over none. (
          k.0,
          passed x todo (got_of e.wire (log_of s)) (ending e.wire (log_of s)) (sym k.0 ∙ over) k.1,
        ))
        (λ going. done_turn (Moves todo) (call.Got e.wire (value_of x)) e s
        (goes_turn x todo (setup_of s) (log_of s) going k))

    goes_all : (todo : List Tree) (s : Seat) → Goes (setup_of s).mode todo (log_of s)
        → Done (Moves []) (got_all todo e s)
    unfolding got_all got_one
    goes_all [] s k = λ none. k
    goes_all (x ∷ todo) s k =
        done_then (Moves todo) (Moves []) (got_one x e s) (got_all todo e)
        (done_then (Moves (x ∷ todo)) (Moves todo) (does s (next_read s) []) (got (value_of x) e)
        (λ none. k) (λ h. goes_got x todo (next_read s) h))
        (λ h. goes_all todo (got_one x e s).state h)

  -- ---- what stops the reading

  module _ (bytes : List ℕ) where
    abbrev pub Settled : Bool → ClientMode → List LogEntry → Type 0
    Settled eof m log =
        EndsByOwn m e.wire log × IsGot bytes eof (got_of e.wire log) (ending e.wire log)

    -- after a move of the client
    abbrev pub Settling : Bool → Seat → List Line → Type 0
    Settling eof u ls = Settled eof (setup_of u).mode (log_of u)

    settled : (got : List Tree) (how : Ending) → (is_over how ≡ false → IsWell bytes)
        → Toward (values_of bytes) [] got how → IsGot bytes false got how
    settled got Going well k = (sym (append-nil got) ∙ k, well refl, refl)
    settled got (ByValue v) well k = k
    settled got ByEnd well k = absurd k

    -- the link ends at a fault of the stream, or at an EOF
    settled_end : (eof : Bool) (s : Setup) (log : List LogEntry)
        → is_ended s.mode e.wire log ≡ false → got_of e.wire log ≡ values_of bytes
        → (IsWell bytes → eof ≡ true)
        → Settled eof s.mode (client_step s log (call.End e.wire)).past
    unfolding client_step
    settled_end eof s log going all why =
        let new : List LogEntry = entry.End e.wire ∷ log in
        let is = ended_here e.wire log in
        subst (λ b. Settled eof s.mode (cond b log new)) (sym going) (
          own_over s.mode e.wire new (ap is_over is),
          subst (IsGot bytes eof (got_of e.wire log)) (sym is) (all, why),
        )

    module _ (s : Seat) (is : (parse_values (fed begun bytes)).fault
        ≡ (parse_values s.reader).fault)
        (items : got_of e.wire (log_of s) ++ (parse_values s.reader).items ≡ values_of bytes)
        (going : has_ended e.wire s ≡ false) where
      stop_settles : (t : Seat) → Goes (values_of bytes) (setup_of t).mode [] (log_of t)
          → Done (Settling false) (stop (stopped_at (parse_values s.reader).fault) e t)
      stop_settles t k =
          let got = got_of e.wire (log_of t) in
          let how = ending e.wire (log_of t) in
          elim (stopped_at (parse_values s.reader).fault) as (λ p.
          stopped_at (parse_values s.reader).fault ≡ p → Done (Settling false) (stop p e t)) [
            | None ↦ λ at none. (k.0, settled got how (λ on. is ∙ values_met s.reader at) k.1)
            | Some place ↦ λ at.
                done_if (Settling false) (has_ended e.wire t) (stays t) _
                (λ over none. (
                  k.0,
                  settled got how (λ on. absurd (let no : true ≡ false =
                      sym over ∙ k.0 ∙ on in cc)) k.1,
                ))
                (λ on. done_then (λ u ls. u ≡ t) (Settling false) (does t t _)
                (turn (call.End e.wire) e) (λ none. refl)
                (λ same. done_turn (Settling false) (call.End e.wire) e t
                (λ none. settled_end false (setup_of t) (log_of t) on
                (sym (append-nil got)
                ∙ on_going (values_of bytes) [] (log_of t)
                (going_is (setup_of t).mode e.wire (log_of t) on) k.1)
                (λ well. absurd (let no : Some place ≡ None =
                sym at ∙ ap stopped_at (sym is ∙ well) in cc)))))
          ] refl

      -- each whole value that was read is got
      pub values_settle : Done (Settling false) (read_values e s)
      unfolding read_values
      values_settle =
          let p = parse_values s.reader in
          let all = values_of bytes in
          let log = log_of s in
          done_then (Moves all []) (Settling false)
          (and_then (got_all p.items e s) (rest_read p.stream)) (stop (stopped_at p.fault) e)
          (done_then (Moves all []) (Moves all []) (got_all p.items e s) (rest_read p.stream)
          (goes_all all p.items s (
            own_going (setup_of s).mode e.wire log going,
            subst (λ how. Toward all p.items (got_of e.wire log) how)
                (sym (going_is (setup_of s).mode e.wire log going)) items,
          ))
          (λ k none. k))
          (λ h. stop_settles (and_then (got_all p.items e s) (rest_read p.stream)).state h)

    -- ---- an EOF

    over_stays : (eof : Bool) (got : List Tree) (how : Ending) → is_over how ≡ true
        → IsGot bytes eof got how → IsGot bytes true got how
    over_stays eof got Going over k = absurd (let no : false ≡ true = over in cc)
    over_stays eof got (ByValue v) over k = k
    over_stays eof got ByEnd over k = (k.0, λ well. refl)

    pub ends_by_eof : (eof : Bool) (s : Setup) (log : List LogEntry) → Settled eof s.mode log
        → Settled true s.mode (client_step s log (call.End e.wire)).past
    unfolding client_step
    ends_by_eof eof s log k =
        let got = got_of e.wire log in
        let how = ending e.wire log in
        elim (is_ended s.mode e.wire log) as (λ b. is_ended s.mode e.wire log ≡ b
        → Settled true s.mode (cond b log (entry.End e.wire ∷ log))) [
          | true ↦ λ over. (k.0, over_stays eof got how (sym k.0 ∙ over) k.1)
          | false ↦ λ going.
              let is = ended_here e.wire log in
              let all = subst (IsGot bytes eof got) (going_is s.mode e.wire log going) k.1 in (
                own_over s.mode e.wire (entry.End e.wire ∷ log) (ap is_over is),
                subst (IsGot bytes true got) (sym is) (all.0, λ well. refl),
              )
        ] refl
