-- What each move over a link does to its account.
use Rattle.std.proofs.Common.{◌≡◌, ℕ, List, [], ◌++◌, true, false, cond, None, Option, take}
use Rattle.std.proofs.Common.{refl, sym, ap, ◌∙◌, arith, append_assoc, append-nil, length}
use Rattle.std.specs.Prelude.{◌==◌, ◌&&◌}
use Rattle.std.proofs.lemmas.Slice.Eq.{bytes_eq-Decides}
use Rattle.std.proofs.lemmas.List.{take-append-drop}
use Rattle.resp_stream.specs.Parse.{parse}
use Rattle.resp_stream.proofs.Onward.{GoesOn}
use Rattle.serial_model.specs.declared.history.Limits.{Limits}
use Rattle.serial_model.specs.declared.history.Entry.{Entry}
use Rattle.serial_model.specs.declared.history.BookCall.TheVariants as call
use Rattle.serial_model.specs.declared.history.BookReply.{BookReply}
use Rattle.serial_model.specs.History.{has_ended, reads_on, gives_on, stream, taken, runs_of}
use Rattle.serial_model.specs.History.{unsent}
use Rattle.serial_model.specs.Steps.{Turn, book_step, given_by}
use Rattle.serial_model.proofs.Turning.{step_gave, step_runs}
use Rattle.server_links.specs.LinkEvent.{LinkEvent, Raw, Put, Over, Now, Tick}
use Rattle.server_links.specs.declared.link.LinkMove.{LinkMove}
use Rattle.server_links.specs.declared.link.LinkMove.TheVariants as moves
use Rattle.server_links.specs.declared.direction.Direction.{Direction}
use Rattle.server_links.specs.declared.direction.Eof.{Eof}
use Rattle.server_links.specs.declared.direction.Eof.TheVariants as eof
use Rattle.server_links.specs.Directions.{cut, finished, is_open, is_queued, put, put_by, queued}
use Rattle.server_links.specs.Directions.{without_bytes, past_eof}
use Rattle.server_links.specs.OneHistory.{read_on}
use Rattle.server_links.specs.Outcome.{Outcome, and_then, stays}
use Rattle.server_links.specs.Session.{Session, with_past, with_link, with_up, with_down}
use Rattle.server_links.specs.Moves.{turned, say, serve_all, bytes_of, take_down, all_bytes}
use Rattle.server_links.specs.Moves.{send_all, send, cut_off, move_of, moved, hang_up, read_lines}
use Rattle.server_links.specs.Moves.{end_down, with_end}
use Rattle.server_links.specs.Moves.{eof_lines, read_bytes, read_eof, receive_all, receive, flow}
use Rattle.std.proofs.lemmas.Bool.Decides.{nat_tests}
use Rattle.server_links.proofs.Carries.{mute_turn, take_carries, told}
use Rattle.server_links.proofs.Endings.{takes_same}
use Rattle.server_links.proofs.Moving.{every_turned, every_read, every_serve_all, every_send_all}
use Rattle.server_links.proofs.Moving.{every_take}
use Rattle.server_links.proofs.Accounts.{gave, Account, Part, Ran, account_part, ran_front}
use Rattle.server_links.proofs.Accounts.{ran_grown, Keeps, keeps_then, keeps_stays, keeps_once}
use Rattle.server_links.proofs.Accounts.{keeps_quiet}
use Rattle.server_links.proofs.AccountRuns.{account_refuses, account_stays, reads_of}
use Rattle.server_links.proofs.AccountRuns.{same_heard, same_id, serve_all_keeps, serve_keeps}

-- ---- the server's end sends

given_is : (c most : ℕ) (reply : BookReply) → given_by c (call.Take c most) reply ≡ bytes_of reply
given_is c most reply = grind (arith, same_id, nat_tests)

gave_take : (l : Limits) (c most : ℕ) (past : List Entry) →
    let t : Turn = book_step l past (call.Take c most) in
    gave l c past ++ bytes_of t.reply ≡ gave l c t.past
unfolding gave
gave_take l c most past =
    let t = book_step l past (call.Take c most) in
    ap (λ b. take (taken l c past) (stream l c past) ++ b) (sym (given_is c most t.reply))
    ∙ step_gave l c past (call.Take c most)

take_reads : (l : Limits) (c most : ℕ) (past : List Entry)
    → reads_on l (book_step l past (call.Take c most)).past c ≡ reads_on l past c
take_reads l c most past = (takes_same l c past c most).0

-- a Take was played, and what it gave is still to be put on the way
record InHand (given heard said read : List ℕ) (s : Session) : Type 0 where
  up_lost : List ℕ
  all_said : (heard ++ s.link.up.bytes) ++ up_lost ≡ said
  none_up : is_open s.link.up.eof ≡ true → up_lost ≡ []
  opened : is_open s.link.down.eof ≡ true
  all_given : (read ++ s.link.down.bytes) ++ given ≡ gave s.limits s.link.id s.past
  runs : Ran [] heard s.limits s.link.id s.past
  reading : reads_on s.limits s.past s.link.id ≡ true → GoesOn parse heard s.link.reader

module _ (heard said : List ℕ) where
  hand_part : (given read : List ℕ) (s : Session) → InHand given heard said read s
      → Part said read s
  unfolding Part gave
  hand_part given read s h = record {
    heard = heard;
    up = record { lost = h.up_lost; all_said = h.all_said };
    down = record { lost = given; all_taken = h.all_given };
    runs_front = ran_front [] heard s.limits s.link.id s.past h.runs;
  }

  take_in_hand : (most : ℕ) (read : List ℕ) (s : Session) → is_open s.link.down.eof ≡ true
      → Account heard said read s →
      let t : Turn = book_step s.limits s.past (call.Take s.link.id most) in
      InHand (bytes_of t.reply) heard said read (with_past s t.past)
  take_in_hand most read s opened a =
      let t = book_step s.limits s.past (call.Take s.link.id most) in
      let k = take_carries s most in
      record {
        up_lost = a.bytes.up_lost;
        all_said = a.bytes.all_said;
        none_up = a.bytes.none_up;
        opened = opened;
        all_given = grind (arith, append-nil, gave_take);
        runs = ran_grown [] heard s.limits s.link.id k.entries s.past t.past k.grows
            (sym (step_runs s.limits s.link.id s.past (call.Take s.link.id most))
            ∙ append-nil (runs_of s.link.id s.past)) a.runs;
        reading = λ on. a.reading (sym (take_reads s.limits s.link.id most s.past) ∙ on);
      }

  put_in_hand : (given read : List ℕ) (s : Session) → InHand given heard said read s
      → Account heard said read (with_link s (with_down s.link (put given s.link.down)))
  put_in_hand given read s h = grind (arith, append-nil, append_assoc, nat_tests)

  take_keeps : (most : ℕ) (s : Session) → is_open s.link.down.eof ≡ true
      → Keeps (Account heard said) (Account heard said) (Part said) s (take_down most s)
  unfolding take_down
  take_keeps most s opened =
      let t = book_step s.limits s.past (call.Take s.link.id most) in
      let given = bytes_of t.reply in
      keeps_then (Account heard said) (InHand given heard said) (Account heard said) (Part said) s
      (turned s [] t) _ (every_turned s [] t (take_carries s most))
      (keeps_quiet (Account heard said) (InHand given heard said) (Part said) s (with_past s t.past)
      (told s [] t) None (mute_turn s.link.name s.limits s.names s.link.name [] t)
      (λ read a. let h = take_in_hand most read s opened a in
      (account_part heard said read s a, (λ e. h), hand_part given read _ h)))
      (λ u. keeps_quiet (InHand given heard said) (Account heard said) (Part said) u
      (with_link u (with_down u.link (put given u.link.down))) [] None refl
      (λ read h. let a = put_in_hand given read u h in
      (hand_part given read u h, (λ e. a), account_part heard said read _ a)))

  not_open : (e : Eof) → is_open (queued e) ≡ true → ⊥
  not_open e h = grind (arith, nat_tests)

  finished_account : (read : List ℕ) (s : Session) → Account heard said read s
      → Account heard said read (with_link s (with_down s.link (finished s.link.down)))
  finished_account read s a = grind arith

  -- the EOF follows the last bytes
  end_account : (read : List ℕ) (s : Session) → Account heard said read s
      → Account heard said read (with_end s)
  end_account read s a =
      elim (has_ended s.limits s.link.id s.past
      && (length (unsent s.limits s.link.id s.past) == 0)) as (λ b. Account heard said read
      (cond b (with_link s (with_down s.link (finished s.link.down))) s)) [
        | true ↦ finished_account read s a
        | false ↦ a
      ]

  end_keeps : (s : Session)
      → Keeps (Account heard said) (Account heard said) (Part said) s (end_down s)
  end_keeps s =
      keeps_stays (Account heard said) (Account heard said) (Part said) s (with_end s)
      (λ read a. let n = end_account read s a in (n, account_part heard said read (with_end s) n))

  take_end_keeps : (most : ℕ) (s : Session) → is_open s.link.down.eof ≡ true
      → Keeps (Account heard said) (Account heard said) (Part said) s
      (and_then (take_down most s) end_down)
  take_end_keeps most s opened =
      keeps_then (Account heard said) (Account heard said) (Account heard said) (Part said) s
      (take_down most s) end_down (every_take most s) (take_keeps most s opened) end_keeps

  send_all_keeps : (s : Session)
      → Keeps (Account heard said) (Account heard said) (Part said) s (send_all s)
  send_all_keeps s =
      let ended = with_link s (with_down s.link (finished s.link.down)) in
      elim (is_open s.link.down.eof) as (λ b. is_open s.link.down.eof ≡ b
      → Keeps (Account heard said) (Account heard said) (Part said) s
      (cond b (cond (gives_on s.limits s.past s.link.id)
      (and_then (take_down all_bytes s) end_down) (stays ended)) (stays s))) [
        | true ↦ λ opened. elim (gives_on s.limits s.past s.link.id) as (λ b. Keeps
            (Account heard said) (Account heard said) (Part said) s
            (cond b (and_then (take_down all_bytes s) end_down) (stays ended))) [
              | true ↦ take_end_keeps all_bytes s opened
              | false ↦ keeps_stays (Account heard said) (Account heard said) (Part said) s ended
                  (λ read a. let n = finished_account read s a in
                  (n, account_part heard said read ended n))
            ]
        | false ↦ λ shut. account_stays heard said s
      ] refl

  send_keeps : (count : Option ℕ) (s : Session)
      → Keeps (Account heard said) (Account heard said) (Part said) s (send count s)
  send_keeps count s =
      grind (arith, send_all_keeps, take_end_keeps, nat_tests, account_refuses)

  -- ---- the client's end

  read_own : (name bytes : List ℕ) → read_on name (read_lines name bytes) ≡ bytes
  read_own name bytes = grind (arith, bytes_eq-Decides, append-nil)

  down_account : (bytes read : List ℕ) (down : Direction) (s : Session)
      → bytes ++ down.bytes ≡ s.link.down.bytes
      → (is_open down.eof ≡ true → is_open s.link.down.eof ≡ true)
      → Account heard said read s → Account heard said (read
      ++ bytes) (with_link s (with_down s.link down))
  down_account bytes read down s split opened a = grind (arith, append_assoc)

  read_keeps : (bytes : List ℕ) (down : Direction) (s : Session)
      → bytes ++ down.bytes ≡ s.link.down.bytes
      → (is_open down.eof ≡ true → is_open s.link.down.eof ≡ true)
      → Keeps (Account heard said) (Account heard said) (Part said) s (read_bytes bytes down s)
  read_keeps bytes down s split opened =
      keeps_once (Account heard said) (Account heard said) (Part said) s
      (with_link s (with_down s.link down)) (read_lines s.link.name bytes) None bytes
      (read_own s.link.name bytes)
      (λ read a. let n = down_account bytes read down s split opened a in
      (account_part heard said read s a, (λ e. n), account_part heard said (read ++ bytes) _ n))

  read_eof_keeps : (s : Session)
      → Keeps (Account heard said) (Account heard said) (Part said) s (read_eof s)
  read_eof_keeps s =
      let b = is_queued s.link.down.eof in
      keeps_once (Account heard said) (Account heard said) (Part said) s
      (with_link s (with_down s.link (past_eof s.link.down))) (eof_lines s.link.name b) None []
      (grind (arith, nat_tests))
      (λ read a. let n = down_account [] read (past_eof s.link.down) s refl
      (grind arith) a in
      (account_part heard said read s a, (λ e. n), account_part heard said (read ++ []) _ n))

  receive_all_keeps : (s : Session)
      → Keeps (Account heard said) (Account heard said) (Part said) s (receive_all s)
  unfolding receive_all
  receive_all_keeps s =
      keeps_then (Account heard said) (Account heard said) (Account heard said) (Part said) s _
      read_eof (every_read s.link.down.bytes (without_bytes s.link.down) s
      (ap without_bytes))
      (read_keeps s.link.down.bytes (without_bytes s.link.down) s (append-nil s.link.down.bytes)
      (λ h. h)) read_eof_keeps

  receive_keeps : (count : Option ℕ) (s : Session)
      → Keeps (Account heard said) (Account heard said) (Part said) s (receive count s)
  receive_keeps count s =
      grind (arith, receive_all_keeps, read_keeps, take-append-drop, account_refuses)

  cut_keeps : (s : Session)
      → Keeps (Account heard said) (Account heard said) (Part said) s (cut_off s)
  cut_keeps s = keeps_stays (Account heard said) (Account heard said) (Part said) s _ (λ read a.
      let n : Account heard said read (with_link s
      (with_up (with_down s.link (cut s.link.down)) (cut s.link.up))) = record {
        bytes = record {
          up_lost = s.link.up.bytes ++ a.bytes.up_lost;
          all_said = grind (arith, append-nil, append_assoc);
          none_up = λ h. absurd (not_open s.link.up.eof h);
          down_lost = s.link.down.bytes ++ a.bytes.down_lost;
          all_taken = grind (arith, append-nil, append_assoc);
          none_down = λ h. absurd (not_open s.link.down.eof h);
        };
        runs = a.runs;
        reading = a.reading;
      } in
      (n, account_part heard said read _ n))

  hang_keeps : (s : Session)
      → Keeps (Account heard said) (Account heard said) (Part said) s (hang_up s)
  hang_keeps s = keeps_stays (Account heard said) (Account heard said) (Part said) s _ (λ read a.
      let n : Account heard said read (with_link s (with_up s.link (finished s.link.up))) =
      grind (arith, not_open) in
      (n, account_part heard said read _ n))

-- ---- the client's end puts bytes on the way

put_said : (heard said bytes lost flight : List ℕ) (e : Eof) → (heard ++ flight) ++ lost ≡ said
    → (is_open e ≡ true → lost ≡ [])
    → (rest : List ℕ) × ((heard ++ put_by e flight bytes) ++ rest ≡ said ++ bytes)
    × (is_open e ≡ true → rest ≡ [])
put_said heard said bytes lost flight eof.None all none = (
  [],
  append-nil (heard ++ (flight ++ bytes)) ∙ sym (append_assoc heard flight bytes)
      ∙ ap (λ l. l ++ bytes) (sym (append-nil (heard ++ flight))
      ∙ ap (λ l. (heard ++ flight) ++ l) (sym (none refl)) ∙ all),
  λ h. refl,
)
put_said heard said bytes lost flight e all none = (
  lost ++ bytes,
  sym (append_assoc (heard ++ flight) lost bytes)
      ∙ ap (λ l. l ++ bytes) all,
  λ h. absurd (let no : ⊥ = cc in no),
)

say_keeps : (heard said bytes : List ℕ) (s : Session)
    → Keeps (Account heard said) (Account heard (said ++ bytes)) (Part (said ++ bytes)) s
    (say bytes s)
unfolding Part gave
say_keeps heard said bytes s =
    keeps_quiet (Account heard said) (Account heard (said ++ bytes)) (Part (said ++ bytes)) s
    (with_link s (with_up s.link (put bytes s.link.up))) [] None refl (λ read a.
    let p = put_said heard said bytes a.bytes.up_lost s.link.up.bytes s.link.up.eof a.bytes.all_said
    a.bytes.none_up in
    grind (arith, Account, append_assoc, append-nil, account_part))

-- ---- an event

pub flow_keeps : (heard said : List ℕ) (s : Session)
    → Keeps (Account heard said) (Account (heard ++ reads_of None s) said) (Part said) s (flow s)
unfolding flow
flow_keeps heard said s =
    keeps_then (Account heard said) (Account (heard ++ reads_of None s) said)
    (Account (heard ++ reads_of None s) said) (Part said) s (serve_all s) _ (every_serve_all s)
    (serve_all_keeps heard said s)
    (λ t. keeps_then (Account (heard ++ reads_of None s) said)
    (Account (heard ++ reads_of None s) said) (Account (heard ++ reads_of None s) said)
    (Part said) t (send_all t) receive_all (every_send_all t)
    (send_all_keeps (heard ++ reads_of None s) said t)
    (receive_all_keeps (heard ++ reads_of None s) said))

-- what the server's end hears at a move over its link
unfoldable pub piece_over : LinkMove → Session → List ℕ
piece_over (moves.Serve count) s = reads_of count s
piece_over (moves.Send count) s = []
piece_over (moves.Recv count) s = []
piece_over moves.Flow s = reads_of None s
piece_over moves.HangUp s = []
piece_over moves.Cut s = []

-- what the server's end hears at an event of its link, and what the client says
unfoldable pub piece_of : LinkEvent → Session → List ℕ
piece_of (Raw name) s = []
piece_of (Put name bytes) s = []
piece_of (Over name move) s = piece_over move s
piece_of (Now moment) s = []
piece_of Tick s = []

unfoldable pub bytes_said : LinkEvent → List ℕ
bytes_said (Raw name) = []
bytes_said (Put name bytes) = bytes
bytes_said (Over name move) = []
bytes_said (Now moment) = []
bytes_said Tick = []

-- nothing was said, or nothing heard
module _ (heard said : List ℕ) (s : Session) (m : Outcome Session) where
  none_heard : (bytes : List ℕ)
      → Keeps (Account heard said) (Account heard (said ++ bytes)) (Part (said ++ bytes)) s m
      → Keeps (Account heard said) (Account (heard ++ []) (said ++ bytes)) (Part (said ++ bytes)) s
      m
  none_heard bytes k = grind (arith, append-nil)

  neither : Keeps (Account heard said) (Account heard said) (Part said) s m
      → Keeps (Account heard said) (Account (heard ++ []) (said ++ [])) (Part (said ++ [])) s m
  neither k = grind (arith, append-nil, same_heard)

moved_keeps : (heard said : List ℕ) (move : LinkMove) (s : Session)
    → Keeps (Account heard said) (Account (heard ++ piece_over move s) (said ++ []))
    (Part (said ++ [])) s (moved move s)
unfolding piece_over
moved_keeps heard said move s =
    grind (
      arith,
      serve_keeps,
      send_keeps,
      receive_keeps,
      flow_keeps,
      hang_keeps,
      cut_keeps,
      append-nil,
    )

pub move_keeps : (heard said : List ℕ) (event : LinkEvent) (s : Session)
    → Keeps (Account heard said) (Account (heard ++ piece_of event s) (said ++ bytes_said event))
    (Part (said ++ bytes_said event)) s (move_of event s)
unfolding piece_of bytes_said
move_keeps heard said event s =
    grind (arith, none_heard, say_keeps, moved_keeps, neither, account_stays, nat_tests)
