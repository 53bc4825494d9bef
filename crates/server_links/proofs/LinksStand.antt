-- One history serves all links, event by event: what stands of a world after each, and wherever
-- memory runs out.
use Rattle.std.proofs.Common.{◌≡◌, ◌+◌, ◌<◌, ◌≤◌, ℕ, List, [], ◌∷◌, ◌++◌, true, false, cond, None}
use Rattle.std.proofs.Common.{length, filter, refl, sym, ap, subst, ◌∙◌, arith}
use Rattle.std.proofs.Common.{append-nil, length-append, length-set, eq-eqb, ne_eqb}
use Rattle.std.specs.Prelude.{◌==◌, ◌&&◌}
use Rattle.std.specs.Str.{bytes_eq}
use Rattle.std.proofs.lemmas.Bool.{cases_lt}
use Rattle.std.proofs.lemmas.Slice.Eq.{bytes_eq-Decides}
use Rattle.std.proofs.lemmas.List.{get_or-set_same, get_or-set_other, get_or_push}
use Rattle.std.proofs.lemmas.List.{get_or_append_left, take-append-le}
use Rattle.std.proofs.lemmas.Bool.Decides.{nat_tests}
use Rattle.serial_model.specs.declared.history.Limits.{Limits}
use Rattle.serial_model.specs.declared.history.Entry.{Entry}
use Rattle.serial_model.specs.State.{keeps_bytes}
use Rattle.serial_model.specs.EntryEffects.{drops_at}
use Rattle.serial_model.specs.History.{admitted, is_admitted, is_stopped, reads_on, runs_of, state}
use Rattle.serial_model.specs.History.{IsLegal}
use Rattle.serial_model.specs.Laws.{Extends}
use Rattle.serial_model.proofs.Streams.{taken_le, connected, stream_admit, stream_fresh, runs_fresh}
use Rattle.script_text.specs.declared.line.Line.{Line}
use Rattle.script_text.specs.declared.line.Line.TheVariants as line
use Rattle.std.proofs.Math.Seq.{take-nil}
use Rattle.resp_stream.proofs.Onward.{no_requests, requests_begun}
use Rattle.serial_model.specs.declared.history.Entry.TheVariants as entry
use Rattle.server_links.specs.declared.link.Link.{Link}
use Rattle.server_links.specs.EntryLines.{drop_lines, entry_lines, name_of}
use Rattle.server_links.specs.OneHistory.{read_on, History}
use Rattle.server_links.specs.Outcome.{Outcome}
use Rattle.server_links.specs.Session.{Session, with_past, session_at, with_session}
use Rattle.server_links.specs.LinkSteps.{over, place_of}
use Rattle.server_links.specs.LinksState.{LinksState, at_place, fresh_link, names}
use Rattle.server_links.proofs.Drops.{drops_front, drops_rise}
use Rattle.server_links.proofs.Names.{unplaced}
use Rattle.server_links.proofs.NameLists.{names_at, names_more, names_set, names_size}
use Rattle.server_links.proofs.Outcomes.{Meets, meets_within}
use Rattle.server_links.proofs.Carries.{Carries, read_more, entries_more}
use Rattle.server_links.proofs.Endings.{reads_before}
use Rattle.server_links.proofs.Moving.{Every}
use Rattle.server_links.proofs.Accounts.{gave, Account, InFlight, Part, Ran, account_part}
use Rattle.server_links.proofs.Accounts.{ran_grown, Keeps}

pub record Stands (l : Limits) (heard : ℕ → List ℕ) (said : List ℕ
    → List ℕ) (lines : List Line) (w : LinksState) : Type 0 where
  pub history : History l lines w
  pub unique : (i j : ℕ) → i < length w.links → j < length w.links
      → (at_place w.links j).name ≡ (at_place w.links i).name → j ≡ i
  pub accounts : (i : ℕ) → i < length w.links
      → Account (heard i) (said (at_place w.links i).name) (read_on (at_place w.links i).name lines)
      (session_at i w)
  pub unread : (name : List ℕ) → ((i : ℕ) → i < length w.links → (at_place w.links i).name ≡ name
      → ⊥) → read_on name lines ≡ []
  pub unsaid : (name : List ℕ) → ((i : ℕ) → i < length w.links → (at_place w.links i).name ≡ name
      → ⊥) → said name ≡ []
  pub unheard : (i : ℕ) → length w.links ≤ i → heard i ≡ []

-- where memory ran out, or a fault stopped the last event
pub record PartStands (l : Limits) (said : List ℕ
    → List ℕ) (lines : List Line) (w : LinksState) : Type 0 where
  pub history : History l lines w
  pub parts : (i : ℕ) → i < length w.links
      → Part (said (at_place w.links i).name) (read_on (at_place w.links i).name lines)
      (session_at i w)
  pub unread : (name : List ℕ) → ((i : ℕ) → i < length w.links → (at_place w.links i).name ≡ name
      → ⊥) → read_on name lines ≡ []

pub stands_part : (l : Limits) (heard : ℕ → List ℕ) (said : List ℕ
    → List ℕ) (lines : List Line) (w : LinksState) → Stands l heard said lines w
    → PartStands l said lines w
stands_part l heard said lines w s = record {
  history = s.history;
  parts = λ i lt. account_part (heard i) (said (at_place w.links i).name)
      (read_on (at_place w.links i).name lines) (session_at i w) (s.accounts i lt);
  unread = s.unread;
}

pub stands_same : (l : Limits) (heard heard' : ℕ → List ℕ) (said said' : List ℕ
    → List ℕ) (lines : List Line) (w : LinksState)
    → ((i : ℕ) → heard i ≡ heard' i) → ((name : List ℕ) → said name ≡ said' name)
    → Stands l heard said lines w → Stands l heard' said' lines w
stands_same l heard heard' said said' lines w h d s = grind arith

pub parts_same : (l : Limits) (said said' : List ℕ → List ℕ) (lines : List Line) (w : LinksState)
    → ((i : ℕ) → i < length w.links → said (at_place w.links i).name
    ≡ said' (at_place w.links i).name) → PartStands l said lines w → PartStands l said' lines w
parts_same l said said' lines w d s = grind arith

-- ---- another connection's turn

gave_other : (l : Limits) (c : ℕ) (past new : List Entry) → Extends l c past new
    → gave l c new ≡ gave l c past
unfolding gave
gave_other l c past new e = grind (arith, take-append-le, taken_le)

other_flight : (heard said read : List ℕ) (s : Session) (past : List Entry)
    → gave s.limits s.link.id past ≡ gave s.limits s.link.id s.past
    → InFlight heard said read s → InFlight heard said read (with_past s past)
other_flight heard said read s past same f = grind arith

pub other_account : (heard said read : List ℕ) (s : Session) (entries past : List Entry)
    → past ≡ entries ++ s.past → is_admitted s.past s.link.id ≡ true
    → Extends s.limits s.link.id s.past past
    → Account heard said read s → Account heard said read (with_past s past)
other_account heard said read s entries past grows on e a =
    let l = s.limits in
    let c = s.link.id in
    record {
      bytes = other_flight heard said read s past (gave_other l c s.past past e) a.bytes;
      runs = ran_grown [] heard l c entries s.past past grows e.runs_are a.runs;
      reading = λ read. a.reading (reads_before l c entries s.past on
          (sym (ap (λ p. reads_on l p c) grows) ∙ read));
    }

-- whatever names the links have
account_named : (heard said read : List ℕ) (s : Session) (ns : List (List ℕ))
    → Account heard said read s → Account heard said read (record s { names = ns })
account_named heard said read s ns a = record {
  bytes = record {
    up_lost = a.bytes.up_lost;
    all_said = a.bytes.all_said;
    none_up = a.bytes.none_up;
    down_lost = a.bytes.down_lost;
    all_taken = a.bytes.all_taken;
    none_down = a.bytes.none_down;
  };
  runs = a.runs;
  reading = a.reading;
}

pub not_equal : (a b : List ℕ) → (a ≡ b → ⊥) → bytes_eq a b ≡ false
not_equal a b n = grind (arith, bytes_eq-Decides)

-- the session of a link beside those of a world
abbrev pub at_session : LinksState → Link → Session
at_session w link =
    record {
      limits = w.limits;
      now = w.now;
      past = w.past;
      names = names w.links;
      link = link;
    }

-- ---- a move over the link at this place

module _ (l : Limits) (heard : ℕ → List ℕ) (said : List ℕ
    → List ℕ) (lines : List Line) (w : LinksState) (s : Stands l heard said lines w) (at : ℕ)
    (below : at < length w.links) where
  module _ (piece bytes : List ℕ) (t : Session) (ls : List Line)
      (c : Carries (session_at at w) t ls) where
    moved : LinksState
    moved = with_session at w t

    size : length moved.links ≡ length w.links
    unfolding moved
    size = length-set w.links at t.link

    named : names moved.links ≡ names w.links
    unfolding moved
    named = names_set w.links at t.link c.named

    mine : session_at at moved ≡ t
    unfolding moved
    mine = grind (arith, get_or-set_same, named)

    theirs : (i : ℕ) → (at ≡ i → ⊥) → at_place moved.links i ≡ at_place w.links i
    unfolding moved
    theirs i n = get_or-set_other w.links at i t.link (fresh_link 0 []) (λ e. n (sym e))

    either : (P : ℕ → Type 0) (i : ℕ) → P at → ((at ≡ i → ⊥) → P i) → P i
    either P i is other = grind arith

    mine_link : at_place moved.links at ≡ t.link
    mine_link = ap (λ (x : Session). x.link) mine

    kept_name : (i : ℕ) → (at_place moved.links i).name ≡ (at_place w.links i).name
    kept_name i = grind (arith, either, mine_link, theirs)

    moved_history : History l (lines ++ ls) moved
    unfolding moved
    moved_history =
        grind (arith, size, names_at, entries_more, filter, names_set, either, mine_link, theirs)

    moved_unread : (name : List ℕ) → ((i : ℕ) → i < length moved.links
        → (at_place moved.links i).name ≡ name → ⊥) → read_on name (lines ++ ls) ≡ []
    moved_unread name n =
        let other : (i : ℕ) → i < length w.links → (at_place w.links i).name ≡ name → ⊥ =
        λ i lt e. n i (omega (arith, lt, size)) (kept_name i ∙ e) in
        read_more name lines ls ∙ ap (λ r. r ++ read_on name ls) (s.unread name other)
        ∙ c.mute name (not_equal (at_place w.links at).name name (other at below))

    moved_heard : ℕ → List ℕ
    moved_heard i = heard i ++ cond (at == i) piece []

    moved_said : List ℕ → List ℕ
    moved_said name = said name ++ cond (bytes_eq (at_place w.links at).name name) bytes []

    same_name : bytes_eq (at_place w.links at).name (at_place w.links at).name ≡ true
    same_name = (bytes_eq-Decides (at_place w.links at).name (at_place w.links at).name).1 refl

    -- the account of a link that another move leaves
    their_account : (i : ℕ) → i < length w.links → (at ≡ i → ⊥)
        → Account (moved_heard i) (moved_said (at_place moved.links i).name)
        (read_on (at_place moved.links i).name (lines ++ ls)) (session_at i moved)
    unfolding moved_heard moved_said moved
    their_account i lt n =
        let link = at_place w.links i in
        let differ : (at_place w.links at).name ≡ link.name → ⊥ =
        λ e. n (s.unique i at lt below e) in
        let ids : ((at_place w.links at).id == link.id) ≡ false = grind (arith, ne_eqb) in
        let a = other_account (heard i) (said link.name) (read_on link.name lines) (session_at i w)
        c.entries t.past c.grows (grind arith) (c.others link.id ids) (s.accounts i lt) in
        let there = at_session moved link in
        subst (λ (x : Link). Account (heard i ++ cond (at == i) piece []) (said x.name
        ++ cond (bytes_eq (at_place w.links at).name x.name) bytes [])
        (read_on x.name (lines ++ ls)) (at_session moved x)) (sym (theirs i n))
        (subst (λ h. Account h (said link.name
        ++ cond (bytes_eq (at_place w.links at).name link.name) bytes [])
        (read_on link.name (lines ++ ls)) there)
        (sym (ap (λ b. heard i ++ cond b piece []) (ne_eqb at i n) ∙ append-nil (heard i)))
        (subst (λ d. Account (heard i) d (read_on link.name (lines ++ ls)) there)
        (sym (ap (λ b. said link.name ++ cond b bytes [])
        (not_equal (at_place w.links at).name link.name differ) ∙ append-nil (said link.name)))
        (subst (λ r. Account (heard i) (said link.name) r there)
        (sym (read_more link.name lines ls ∙ ap (λ r. read_on link.name lines
        ++ r) (c.mute link.name (not_equal (at_place w.links at).name link.name differ))
        ∙ append-nil (read_on link.name lines)))
        (account_named (heard i) (said link.name) (read_on link.name lines)
        (with_past (session_at i w) t.past) (names moved.links) a))))

    stands_moved : Account (heard at ++ piece) (said (at_place w.links at).name
        ++ bytes) (read_on (at_place w.links at).name lines
        ++ read_on (at_place w.links at).name ls) t
        → Stands l moved_heard moved_said (lines ++ ls) moved
    unfolding moved_heard moved_said
    stands_moved a =
        let name = (at_place w.links at).name in
        let read = read_on name lines ++ read_on name ls in
        record {
          history = moved_history;
          unique = grind (arith, size, kept_name);
          accounts = λ i lt. either (λ k. Account (moved_heard k)
              (moved_said (at_place moved.links k).name)
              (read_on (at_place moved.links k).name (lines ++ ls)) (session_at k moved)) i
              (subst (λ (x : Session). Account (moved_heard at)
              (moved_said (at_place moved.links at).name)
              (read_on (at_place moved.links at).name (lines ++ ls)) x) (sym mine)
              (subst (λ n. Account (heard at ++ cond (at == at) piece []) (said n
              ++ cond (bytes_eq name n) bytes []) (read_on n (lines ++ ls)) t)
              (sym (kept_name at))
              (subst (λ b. Account (heard at ++ cond b piece []) (said name
              ++ cond (bytes_eq name name) bytes []) (read_on name (lines ++ ls)) t)
              (sym (eq-eqb at at refl))
              (subst (λ b. Account (heard at ++ piece) (said name
              ++ cond b bytes []) (read_on name (lines ++ ls)) t) (sym same_name)
              (subst (λ r. Account (heard at ++ piece) (said name ++ bytes) r t)
              (sym (read_more name lines ls)) a)))))
              (their_account i (omega (arith, lt, size)));
          unread = moved_unread;
          unsaid = λ n none.
              let other : (i : ℕ) → i < length w.links → (at_place w.links i).name ≡ n → ⊥ =
              λ i lt e. none i (omega (arith, lt, size)) (kept_name i ∙ e) in
              ap (λ b. said n ++ cond b bytes []) (not_equal name n (other at below))
              ∙ append-nil (said n) ∙ s.unsaid n other;
          unheard = λ i le. ap (λ b. heard i ++ cond b piece [])
              (ne_eqb at i (λ e. omega (arith, le, below, size, e))) ∙ append-nil (heard i)
              ∙ s.unheard i (omega (arith, le, size));
        }

    parts_moved : Part (said (at_place w.links at).name
        ++ bytes) (read_on (at_place w.links at).name lines
        ++ read_on (at_place w.links at).name ls) t → PartStands l moved_said (lines ++ ls) moved
    unfolding moved_said
    parts_moved p =
        let name = (at_place w.links at).name in
        record {
          history = moved_history;
          parts = λ i lt. either (λ k. Part (moved_said (at_place moved.links k).name)
              (read_on (at_place moved.links k).name (lines ++ ls)) (session_at k moved)) i
              (subst (λ (x : Session). Part (moved_said (at_place moved.links at).name)
              (read_on (at_place moved.links at).name (lines ++ ls)) x) (sym mine)
              (subst (λ n. Part (said n ++ cond (bytes_eq name n) bytes [])
              (read_on n (lines ++ ls)) t) (sym (kept_name at))
              (subst (λ b. Part (said name ++ cond b bytes []) (read_on name (lines ++ ls)) t)
              (sym same_name)
              (subst (λ r. Part (said name ++ bytes) r t) (sym (read_more name lines ls)) p))))
              (λ n. account_part (moved_heard i) (moved_said (at_place moved.links i).name)
              (read_on (at_place moved.links i).name (lines ++ ls)) (session_at i moved)
              (their_account i (omega (arith, lt, size)) n));
          unread = moved_unread;
        }

  -- wherever a move over this link comes to
  pub over_stands : (piece bytes : List ℕ) (move : Session → Outcome Session)
      → Every (session_at at w) (move (session_at at w))
      → Keeps (Account (heard at) (said (at_place w.links at).name))
      (Account (heard at ++ piece) (said (at_place w.links at).name ++ bytes))
      (Part (said (at_place w.links at).name ++ bytes)) (session_at at w)
      (move (session_at at w))
      → Meets (λ v ls. Stands l (λ i. heard i ++ cond (at == i) piece []) (λ name. said name
      ++ cond (bytes_eq (at_place w.links at).name name) bytes []) (lines ++ ls) v)
      (λ v ls. PartStands l (λ name. said name
      ++ cond (bytes_eq (at_place w.links at).name name) bytes []) (lines ++ ls) v)
      (over at move w)
  unfolding over Keeps moved_heard moved_said moved
  over_stands piece bytes move e k =
      let m = move (session_at at w) in
      let r = k (read_on (at_place w.links at).name lines) (s.accounts at below) in
      meets_within (with_session at w) _ _ m (record {
        ends = λ none. stands_moved piece bytes m.state m.lines (e.carries.ends none) (r.ends none);
        all = λ t ls reached. parts_moved piece bytes t ls (e.carries.all t ls reached)
            (r.all t ls reached);
      })

-- ---- a link is made

fresh_account : (c : ℕ) (name : List ℕ) (l : Limits) (now : ℕ) (past : List Entry)
    (ns : List (List ℕ)) → IsLegal l past → admitted past < c →
    Account [] [] [] (record {
      limits = l;
      now = now;
      past = entry.Admit c ∷ past;
      names = ns;
      link = fresh_link c name;
    })
unfolding gave
fresh_account c name l now past ns legal above =
    let runs : Ran [] [] l c (entry.Admit c ∷ past) = record {
      passed = [];
      all = append-nil (runs_of c past ++ []) ∙ append-nil (runs_of c past)
          ∙ runs_fresh l past c legal above ∙ sym no_requests;
      none = λ h. refl;
    } in
    grind (arith, stream_admit, stream_fresh, take-nil, requests_begun)

-- names of links that a longer list of names has too
name_front : (ns : List (List ℕ)) (name : List ℕ) (id : ℕ) → 0 < id → id ≤ length ns
    → name_of (ns ++ name ∷ []) id ≡ name_of ns id
name_front ns name id more le = grind (arith, get_or_append_left)

names_front : (l : Limits) (ns : List (List ℕ)) (name : List ℕ) (past : List Entry) → IsLegal l past
    → admitted past ≤ length ns → entry_lines l (ns ++ name ∷ []) past ≡ entry_lines l ns past
names_front l ns name [] legal le = refl
names_front l ns name (entry.Admit id ∷ past) legal le =
    grind (arith, name_front, names_front l ns name past legal.2 (omega (arith, le)))
names_front l ns name (entry.Run id words m ∷ past) legal le =
    let n = length past + 1 in
    let e = entry.Run id words m in
    let own : name_of (ns ++ name ∷ []) id ≡ name_of ns id = grind (arith, connected, name_front) in
    ap (λ x. x ++ line.Run n (name_of (ns ++ name ∷ []) id) words
    ∷ drop_lines n (ns ++ name ∷ []) (drops_at l e (state l past)))
    (names_front l ns name past legal.2 le)
    ∙ ap (λ x. entry_lines l ns past ++ line.Run n x words
    ∷ drop_lines n (ns ++ name ∷ []) (drops_at l e (state l past))) own
    ∙ ap (λ x. entry_lines l ns past ++ line.Run n (name_of ns id) words ∷ x)
    (drops_front n 0 (admitted past) ns (name ∷ []) _ (drops_rise l e past) le)
names_front l ns name (entry.Tick m ∷ past) legal le =
    let n = length past + 1 in
    let e = entry.Tick m in
    ap (λ x. x ++ line.Tick n m ∷ drop_lines n (ns ++ name ∷ []) (drops_at l e (state l past)))
    (names_front l ns name past legal.3 le)
    ∙ ap (λ x. entry_lines l ns past ++ line.Tick n m ∷ x)
    (drops_front n 0 (admitted past) ns (name ∷ []) _ (drops_rise l e past) le)
names_front l ns name (entry.Take id max ∷ past) legal le =
    grind (arith, connected, name_front, names_front l ns name past legal.2 le)
names_front l ns name (entry.Close id ∷ past) legal le =
    grind (arith, connected, name_front, names_front l ns name past legal.1 le)

gave_admit : (l : Limits) (c : ℕ) (past : List Entry) (id : ℕ)
    → gave l c (entry.Admit id ∷ past) ≡ gave l c past
unfolding gave
gave_admit l c past id = grind (arith, stream_admit)

-- one more connection leaves the others' accounts
admitted_account : (heard said read : List ℕ) (s : Session) (id : ℕ)
    → reads_on s.limits (entry.Admit id ∷ s.past) s.link.id ≡ reads_on s.limits s.past s.link.id
    → Account heard said read s → Account heard said read (with_past s (entry.Admit id ∷ s.past))
admitted_account heard said read s id still a = record {
  bytes = other_flight heard said read s (entry.Admit id ∷ s.past)
      (gave_admit s.limits s.link.id s.past id) a.bytes;
  runs = ran_grown [] heard s.limits s.link.id (entry.Admit id ∷ []) s.past
      (entry.Admit id ∷ s.past) refl refl a.runs;
  reading = λ on. a.reading (sym still ∙ on);
}

module _ (l : Limits) (heard : ℕ → List ℕ) (said : List ℕ
    → List ℕ) (lines : List Line) (w : LinksState) (s : Stands l heard said lines w) (name : List ℕ)
    (free : place_of name w ≡ None) (goes_on : is_stopped w.limits w.past ≡ false) where
  abbrev pub made : LinksState
  made = record {
    limits = w.limits;
    now = w.now;
    past = entry.Admit (admitted w.past + 1) ∷ w.past;
    links = w.links ++ fresh_link (admitted w.past + 1) name ∷ [];
  }

  abbrev pub made_lines : List Line
  made_lines = line.Admit (length w.past + 1) name (admitted w.past + 1) ∷ []

  nowhere : (i : ℕ) → i < length w.links → (at_place w.links i).name ≡ name → ⊥
  nowhere = unplaced name w free

  made_size : length made.links ≡ length w.links + 1
  made_size = length-append w.links (fresh_link (admitted w.past + 1) name ∷ [])

  old_there : (i : ℕ) → i < length w.links → at_place made.links i ≡ at_place w.links i
  old_there i lt = grind (arith, get_or_append_left)

  new_there : (i : ℕ) → i ≡ length w.links → at_place made.links i
      ≡ fresh_link (admitted w.past + 1) name
  new_there i e = grind (arith, get_or_push)

  which : (P : ℕ → Type 0) (i : ℕ) → i < length made.links → ((k : ℕ) → k < length w.links → P k)
      → ((k : ℕ) → k ≡ length w.links → P k) → P i
  which P i lt old new = grind (arith, cases_lt, made_size)

  same_lines : (n : List ℕ) → read_on n (lines ++ made_lines) ≡ read_on n lines
  same_lines n = read_more n lines made_lines ∙ append-nil (read_on n lines)

  still_there : (c : ℕ) → 0 < c → c ≤ admitted w.past
      → reads_on w.limits (entry.Admit (admitted w.past + 1) ∷ w.past) c
      ≡ reads_on w.limits w.past c
  unfolding state
  still_there c more le =
      ap (λ b. b && keeps_bytes ((state w.limits w.past).standing c))
      (let there : is_admitted (entry.Admit (admitted w.past + 1) ∷ w.past) c
      ≡ is_admitted w.past c = grind (arith, nat_tests) in
      there)

  old_account : (i : ℕ) → i < length w.links → Account (heard i
      ++ []) (said (at_place made.links i).name
      ++ []) (read_on (at_place made.links i).name (lines ++ made_lines)) (session_at i made)
  old_account i lt =
      let x = at_place w.links i in
      let id = admitted w.past + 1 in
      let still = still_there x.id (omega (arith, s.history.ids i lt))
      (omega (arith, s.history.ids i lt, lt, s.history.links)) in
      let there = at_session made x in
      subst (λ (y : Link). Account (heard i ++ []) (said y.name
      ++ []) (read_on y.name (lines ++ made_lines)) (at_session made y))
      (sym (old_there i lt))
      (subst (λ h. Account h (said x.name ++ []) (read_on x.name (lines ++ made_lines)) there)
      (sym (append-nil (heard i)))
      (subst (λ d. Account (heard i) d (read_on x.name (lines ++ made_lines)) there)
      (sym (append-nil (said x.name)))
      (subst (λ r. Account (heard i) (said x.name) r there) (sym (same_lines x.name))
      (account_named (heard i) (said x.name) (read_on x.name lines)
      (with_past (session_at i w) (entry.Admit id ∷ w.past)) (names made.links)
      (admitted_account (heard i) (said x.name) (read_on x.name lines) (session_at i w) id still
      (s.accounts i lt))))))

  new_account : (i : ℕ) → i ≡ length w.links → Account (heard i
      ++ []) (said (at_place made.links i).name
      ++ []) (read_on (at_place made.links i).name (lines ++ made_lines)) (session_at i made)
  new_account i e =
      let id = admitted w.past + 1 in
      let f = fresh_link id name in
      let there = at_session made f in
      subst (λ (y : Link). Account (heard i ++ []) (said y.name
      ++ []) (read_on y.name (lines ++ made_lines)) (at_session made y)) (sym (new_there i e))
      (subst (λ h. Account h (said name ++ []) (read_on name (lines ++ made_lines)) there)
      (sym (append-nil (heard i) ∙ s.unheard i (omega (arith, e))))
      (subst (λ d. Account [] d (read_on name (lines ++ made_lines)) there)
      (sym (append-nil (said name) ∙ s.unsaid name nowhere))
      (subst (λ r. Account [] [] r there) (sym (same_lines name ∙ s.unread name nowhere))
      (fresh_account id name w.limits w.now w.past (names made.links) s.history.legal
      (omega arith)))))

  old_name : (i : ℕ) → i < length w.links → (at_place made.links i).name ≡ (at_place w.links i).name
  old_name i lt = ap (λ (x : Link). x.name) (old_there i lt)

  new_name : (i : ℕ) → i ≡ length w.links → (at_place made.links i).name ≡ name
  new_name i e = ap (λ (x : Link). x.name) (new_there i e)

  made_unique : (i j : ℕ) → i < length made.links → j < length made.links
      → (at_place made.links j).name ≡ (at_place made.links i).name → j ≡ i
  made_unique i j li lj =
      which (λ k. (at_place made.links j).name ≡ (at_place made.links k).name → j ≡ k) i li
      (λ k lk. which (λ m. (at_place made.links m).name ≡ (at_place made.links k).name → m ≡ k) j lj
      (λ m lm e. s.unique k m lk lm (sym (old_name m lm) ∙ e ∙ old_name k lk))
      (λ m em e. absurd (nowhere k lk (sym (old_name k lk) ∙ sym e ∙ new_name m em))))
      (λ k ek. which (λ m. (at_place made.links m).name ≡ (at_place made.links k).name → m ≡ k) j lj
      (λ m lm e. absurd (nowhere m lm (sym (old_name m lm) ∙ e ∙ new_name k ek)))
      (λ m em e. em ∙ sym ek))

  pub stands_made : Stands l (λ i. heard i ++ []) (λ n. said n ++ []) (lines ++ made_lines) made
  stands_made =
      let before : (n : List ℕ) → ((i : ℕ) → i < length made.links
      → (at_place made.links i).name ≡ n → ⊥) → (i : ℕ) → i < length w.links
      → (at_place w.links i).name ≡ n → ⊥ =
      λ n none i lt e. none i (omega (arith, lt, made_size)) (old_name i lt ∙ e) in
      record {
        history = grind (
          arith,
          names_size,
          get_or_push,
          made_size,
          old_there,
          new_there,
          entries_more,
          names_more,
          names_front,
        );
        unique = made_unique;
        accounts = λ i lt. which (λ k. Account (heard k ++ []) (said (at_place made.links k).name
            ++ []) (read_on (at_place made.links k).name (lines ++ made_lines)) (session_at k made))
            i lt old_account new_account;
        unread = λ n none. same_lines n ∙ s.unread n (before n none);
        unsaid = λ n none. append-nil (said n) ∙ s.unsaid n (before n none);
        unheard = λ i le. append-nil (heard i) ∙ s.unheard i (omega (arith, le, made_size));
      }
