-- The lines of a client's answers, and of what it holds, in the code.
use Rattle.std.proofs.Common.{◌≡◌, ◌+◌, ◌≤◌, ℕ, zero, suc, List, [], ◌∷◌, ◌++◌, Bool, length}
use Rattle.std.proofs.Common.{Option, refl, sym, ap, subst, ◌∙◌, arith, append-nil, append_assoc}
use Rattle.std.proofs.Common.{length-append, inl, inr}
use Rattle.std.proofs.lemmas.Bool.{cases_lt}
use Rattle.resp_value.specs.declared.value.Value.{Value}
use Rattle.shared_cache.specs.declared.entry.CacheEntry.{CacheEntry}
use Rattle.shared_cache.specs.declared.log.Wire.TheVariants.{Main}
use Rattle.shared_cache.specs.declared.log.LogEntry.{LogEntry}
use Rattle.shared_cache.specs.declared.log.LogEntry.TheVariants as entry
use Rattle.shared_cache.specs.declared.log.ClientCall.TheVariants as call
use Rattle.shared_cache.specs.declared.log.ClientReply.{ClientReply}
use Rattle.shared_cache.specs.Held.{Setup, Words, held, held_by, held_in_place, hold, left}
use Rattle.shared_cache.specs.Held.{open_fetch}
use Rattle.shared_cache.specs.Laws.{HeldInOrder}
use Rattle.shared_cache.specs.Log.{replies}
use Rattle.shared_cache.specs.Steps.{ClientTurn, client_step}
use Rattle.script_text.specs.declared.line.Line.{Line}
use Rattle.script_text.specs.declared.line.Line.TheVariants as line
use Rattle.server_links.specs.declared.fault.WorldFault.TheVariants.{NoMemory}
use Rattle.server_links.specs.Outcome.{Stops, does}
use Rattle.server_links.proofs.Outcomes.{Ends, after_ends, after_stops, stops_first, stops_here}
use Rattle.resp_stream.specs.Stream.{begun}
use Rattle.world_run.specs.WorldState.{MemberState}
use Rattle.world_run.specs.Members.{Seat, log_of, seat, setup_of, with_log, with_reader}
use Rattle.world_run.specs.ClientMoves.{ask_lines, complete_at, held_line, held_lines, listed_line}
use Rattle.world_run.specs.ClientMoves.{poll_lines, print, send_lines, show, shown}
use Rattle.world_run.specs.MemberTurns.{Turned}
use Rattle.world_run.proofs.Answering.{ask_past, turned_is}

-- ---- a client's answers are printed by what they were before the turn, whatever its end has read

module _ (s : Seat) (q : Words) (reply : ClientReply) where
  over : (reply : ClientReply)
      → ask_lines (with_reader (with_log s (entry.Ask q ∷ log_of s)) begun) q reply
      ≡ ask_lines s q reply
  over reply = grind arith

  same_asked : (reply : ClientReply) → ask_lines (with_reader s begun) q reply ≡ ask_lines s q reply
  same_asked reply = grind arith

  pub asked_before : (m : MemberState) → Turned s.member m
      → client_step (setup_of s) (log_of s) (call.Ask q)
      ≡ record { reply = reply; past = m.state.past }
      → ask_lines (seat s.links m begun) q reply ≡ ask_lines s q reply
  asked_before m like is =
      ap (λ x. ask_lines (with_reader x begun) q reply) (turned_is s m like)
      ∙ subst (λ (t : ClientTurn). ask_lines (with_reader (with_log s t.past) begun) q reply
      ≡ ask_lines s q reply) is
      (ask_past (λ p. ask_lines (with_reader (with_log s p) begun) q reply ≡ ask_lines s q reply)
      (setup_of s) (log_of s) (same_asked reply) q (over reply))

module _ (s : Seat) where
  same_sent : (p : List LogEntry) (reply : ClientReply)
      → send_lines (with_reader (with_log s p) begun) reply ≡ send_lines s reply
  same_sent p reply = grind arith

  pub sent_before : (reply : ClientReply) (m : MemberState) → Turned s.member m
      → send_lines (seat s.links m begun) reply ≡ send_lines s reply
  sent_before reply m like =
      ap (λ x. send_lines (with_reader x begun) reply) (turned_is s m like)
      ∙ same_sent m.state.past reply

  same_polled : (n : ℕ) (p : List LogEntry) (reply : ClientReply)
      → poll_lines (with_reader (with_log s p) begun) n reply ≡ poll_lines s n reply
  same_polled n p reply = grind arith

  pub polled_before : (n : ℕ) (reply : ClientReply) (m : MemberState) → Turned s.member m
      → poll_lines (seat s.links m begun) n reply ≡ poll_lines s n reply
  polled_before n reply m like =
      ap (λ x. poll_lines (with_reader x begun) n reply) (turned_is s m like)
      ∙ same_polled n m.state.past reply

-- ---- lines one after another

module _ (s : Seat) where
  pub print_ends : (ls lines : List Line) → Ends (print ls s) lines s (lines ++ ls)
  unfolding print
  print_ends [] lines = (refl, refl, refl)
  print_ends (l ∷ ls) lines =
      after_ends (does s s (l ∷ [])) (print ls) lines s (lines ++ l ∷ []) s (lines ++ l ∷ ls)
      (refl, refl, refl)
      (subst (λ ys. Ends (print ls s) (lines ++ l ∷ []) s ys)
      (append_assoc lines (l ∷ []) ls) (print_ends ls (lines ++ l ∷ [])))

  pub print_stops : (front : List Line) (l : Line) (ls lines : List Line)
      → Stops (print (front ++ l ∷ ls) s) lines NoMemory s (lines ++ front)
  unfolding print
  print_stops [] l ls lines =
      subst (λ ys. Stops (print (l ∷ ls) s) lines NoMemory s ys) (sym (append-nil lines))
      (stops_first (does s s (l ∷ [])) (print ls) lines NoMemory s lines
      (stops_here (does s s (l ∷ [])) s lines refl))
  print_stops (f ∷ front) l ls lines =
      after_stops (does s s (f ∷ [])) (print (front ++ l ∷ ls)) lines s (lines ++ f ∷ []) NoMemory s
      (lines ++ f ∷ front)
      (refl, refl, refl)
      (subst (λ ys. Stops (print (front ++ l ∷ ls) s) (lines ++ f ∷ []) NoMemory s ys)
      (append_assoc lines (f ∷ []) front) (print_stops front l ls (lines ++ f ∷ [])))

  front_stops : (front ys : List Line) (l : Line) (lines : List Line)
      → Stops (print (front ++ (ys ++ l ∷ [])) s) lines NoMemory s (lines ++ front)
  front_stops front [] l lines = print_stops front l [] lines
  front_stops front (y ∷ ys) l lines = print_stops front y (ys ++ l ∷ []) lines

  more_lines : (n k : ℕ) → n ≤ k
      → (more : List Line) × (held_lines k s ≡ held_lines n s ++ more)
  more_lines n zero le = grind (arith, append-nil)
  more_lines n (suc k) le =
      elim (cases_lt n (suc k)) [
        | inl low ↦
            let r = more_lines n k (omega (arith, low)) in
            let l = listed_line s (held_in_place k (held (setup_of s) (log_of s))) in
            (r.0 ++ l, ap (λ x. x ++ l) r.1 ∙ append_assoc (held_lines n s) r.0 l)
        | inr top ↦
            let same : n ≡ suc k = omega (arith, le, top) in
            ([], ap (λ m. held_lines m s) (sym same) ∙ sym (append-nil (held_lines n s)))
      ]

  same_listed : (o : Option CacheEntry) → listed_line (with_reader s begun) o ≡ listed_line s o
  same_listed o = grind arith

  same_held : (n : ℕ) → held_lines n (with_reader s begun) ≡ held_lines n s
  same_held zero = refl
  same_held (suc n) = grind (arith, same_listed, same_held n)

  -- memory ran out where so many of them were printed
  pub show_stops : (n : ℕ) (lines : List Line) → n ≤ length (held (setup_of s) (log_of s))
      → Stops (show s) lines NoMemory s (lines ++ held_lines n (with_reader s begun))
  unfolding show
  show_stops n lines le =
      let m = length (held (setup_of s) (log_of s)) in
      let last = line.Complete s.member.name (complete_at s) in
      let r = more_lines n m le in
      subst (λ hs. Stops (print (shown s) s) lines NoMemory s (lines ++ hs)) (sym (same_held n))
      (subst (λ ls. Stops (print ls s) lines NoMemory s (lines ++ held_lines n s))
      (grind (arith, append_assoc))
      (front_stops (held_lines n s) r.0 last lines))

  pub show_ends : (lines lines1 : List Line) (c : ℕ) → c ≡ complete_at s
      → lines1 ≡ lines
      ++ held_lines (length (held (setup_of s) (log_of s))) (with_reader s begun)
      → Ends (show s) lines s (lines1 ++ line.Complete s.member.name c ∷ [])
  unfolding show
  show_ends lines lines1 c is e =
      let n = length (held (setup_of s) (log_of s)) in
      let last = line.Complete s.member.name (complete_at s) in
      let all = e ∙ ap (λ hs. lines ++ hs) (same_held n) in
      subst (λ ls. Ends (print (shown s) s) lines s ls)
      (sym (append_assoc lines (held_lines n s) (last ∷ []))
      ∙ ap (λ l. l ++ last ∷ []) (sym all)
      ∙ ap (λ k. lines1 ++ line.Complete s.member.name k ∷ []) (sym is))
      (print_ends (shown s) lines)

-- ---- what is held, place by place

hold_one : (o : Option Words) (b : Bool) (v : Value) (n : ℕ) → length (hold o b v n) ≤ 1
hold_one o b v n = grind arith

-- no more is held than replies came
held_few : (open_of : ℕ → Option Words) (left_of : ℕ → Bool) (vs : List Value)
    → length (held_by open_of left_of vs) ≤ length vs
held_few open_of left_of [] = omega arith
held_few open_of left_of (v ∷ vs) =
    grind (arith, hold_one, length-append, held_few open_of left_of vs)

pub held_within : (s : Setup) (log : List LogEntry)
    → length (held s log) ≤ length (replies s.mode Main log)
held_within s log = held_few (open_fetch s log) (left s log) (replies s.mode Main log)

module _ (in_order : HeldInOrder) (s : Seat) where
  -- no line: all of them were listed
  pub all_listed : (n : ℕ) → n ≤ length (held (setup_of s) (log_of s))
      → [] ≡ listed_line s (held_in_place n (held (setup_of s) (log_of s)))
      → n ≡ length (held (setup_of s) (log_of s))
  all_listed n le none =
      let hs = held (setup_of s) (log_of s) in
      elim (cases_lt n (length hs)) [
        | inl low ↦
            let f = (in_order (setup_of s) (log_of s)).filled n low in
            absurd (let no : [] ≡ held_line s f.0 ∷ [] = none ∙ ap (listed_line s) f.1 in cc)
        | inr top ↦ omega (arith, le, top)
      ]

  -- a line: there was another
  pub one_listed : (n : ℕ) (l : Line) → n ≤ length (held (setup_of s) (log_of s))
      → l ∷ [] ≡ listed_line s (held_in_place n (held (setup_of s) (log_of s)))
      → n + 1 ≤ length (held (setup_of s) (log_of s))
  one_listed n l le some = grind arith
