-- What is heard and runs, in the account of a link.
use Rattle.std.proofs.Common.{◌≡◌, ℕ, List, [], ◌∷◌, ◌++◌, Bool, true, false, cond, max, Some, None}
use Rattle.std.proofs.Common.{Option, length, take, refl, sym, ap, subst, ◌∙◌, append_assoc}
use Rattle.std.proofs.Common.{append-nil, eq-eqb, arith, inl, inr}
use Rattle.std.specs.Prelude.{◌==◌, ◌&&◌, nat_le}
use Rattle.std.proofs.lemmas.Bool.{both_ways, cases_Bool}
use Rattle.std.proofs.lemmas.List.{take-append-drop}
use Rattle.resp_stream.specs.declared.fault.StreamFault.{StreamFault}
use Rattle.resp_stream.specs.declared.fault.FaultPlace.{FaultPlace}
use Rattle.resp_stream.specs.Stream.{Stream, fed}
use Rattle.resp_stream.specs.Parse.{parse, requests_of}
use Rattle.resp_stream.proofs.Onward.{GoesOn, goes_further, requests_join}
use Rattle.serial_model.specs.declared.history.Limits.{Limits}
use Rattle.serial_model.specs.declared.history.Entry.{Entry}
use Rattle.serial_model.specs.declared.history.BookCall.TheVariants as call
use Rattle.serial_model.specs.History.{latest, reads_on, stream, taken, runs_of, runs_on}
use Rattle.serial_model.specs.Steps.{Turn, book_step, gone, running}
use Rattle.serial_model.proofs.Turning.{step_gave, step_runs, run_step}
use Rattle.server_links.specs.declared.direction.Direction.{Direction}
use Rattle.server_links.specs.declared.fault.WorldFault.TheVariants.{NothingThere}
use Rattle.server_links.specs.Directions.{is_open, without}
use Rattle.server_links.specs.OneHistory.{read_on}
use Rattle.server_links.specs.Outcome.{Outcome, stays, refuses, and_then}
use Rattle.server_links.specs.Session.{Session, with_past, with_link, with_up, with_reader}
use Rattle.server_links.specs.Moves.{turned, turn, next_read, run_one, run_all, close, stop}
use Rattle.server_links.specs.Moves.{stop_open, rest_read, run_requests, run_fed, stopped_at, feed}
use Rattle.server_links.specs.Moves.{serve_all, serve}
use Rattle.server_links.proofs.Outcomes.{Meets}
use Rattle.server_links.proofs.FaultPlaces.{parse_met}
use Rattle.server_links.proofs.Carries.{mute_turn, carries_link, close_carries, told}
use Rattle.server_links.proofs.Endings.{passed_early, read_then, runs_unquit, unread_then}
use Rattle.server_links.specs.Transcript.{up_to}
use Rattle.server_links.proofs.Moving.{every_quiet, every_does, every_run_one, every_run_all}
use Rattle.server_links.proofs.Moving.{every_run_requests}
use Rattle.server_links.proofs.Accounts.{gave, InFlight, Account, Running, Halted, Stopping, Part}
use Rattle.server_links.proofs.Accounts.{account_part, running_part, halted_part, ran_grown, Keeps}
use Rattle.server_links.proofs.Accounts.{keeps_from, keeps_then, keeps_stays, keeps_refuses}
use Rattle.server_links.proofs.Accounts.{keeps_quiet}

pub same_id : (c : ℕ) → (c == c) ≡ true
same_id c = eq-eqb c c refl

flight_past : (heard said read : List ℕ) (s : Session) (past : List Entry)
    → gave s.limits s.link.id past ≡ gave s.limits s.link.id s.past
    → InFlight heard said read s → InFlight heard said read (with_past s past)
flight_past heard said read s past same f = grind arith

-- ---- what runs

gave_run : (l : Limits) (c now : ℕ) (words : List (List ℕ)) (past : List Entry)
    → gave l c (book_step l past (call.Run c words now)).past ≡ gave l c past
unfolding gave
gave_run l c now words past = sym (step_gave l c past (call.Run c words now))
    ∙ append-nil (take (taken l c past) (stream l c past))

gave_close : (l : Limits) (c : ℕ) (past : List Entry)
    → gave l c (book_step l past (call.Close c)).past ≡ gave l c past
unfolding gave
gave_close l c past = sym (step_gave l c past (call.Close c))
    ∙ append-nil (take (taken l c past) (stream l c past))

gone_step : (l : Limits) (past : List Entry) (c now : ℕ) (words : List (List ℕ))
    → runs_on l past c ≡ false → book_step l past (call.Run c words now) ≡ gone past c
unfolding book_step
gone_step l past c now words off =
    ap (λ b. cond b (running past c words now) (gone past c)) off

ran_one : (runs passed todo all : List (List (List ℕ))) (words : List (List ℕ)) → passed ≡ []
    → (runs ++ passed) ++ words ∷ todo ≡ all → ((runs ++ words ∷ []) ++ []) ++ todo ≡ all
ran_one runs passed todo all words none e = grind (arith, append-nil, append_assoc)

passed_one : (runs passed todo all : List (List (List ℕ))) (words : List (List ℕ))
    → (runs ++ passed) ++ words ∷ todo ≡ all → (runs ++ (passed ++ words ∷ [])) ++ todo ≡ all
passed_one runs passed todo all words e = grind (arith, append_assoc)

module _ (heard said : List ℕ) (words : List (List ℕ)) (todo : List (List (List ℕ)))
    (read : List ℕ) (s : Session) (r : Running (words ∷ todo) heard said read s) where
  abbrev c : ℕ
  c = s.link.id

  -- a request runs
  done_run : runs_on s.limits s.past c ≡ true
      → Running todo heard said read (with_past s (running s.past c words s.now).past)
  done_run on =
      let is = run_step s.limits s.past c s.now words on in
      let at = max s.now (latest s.past) in
      record {
        bytes = flight_past heard said read s (running s.past c words s.now).past
            (ap (λ (t : Turn). gave s.limits c t.past) (sym is)
            ∙ gave_run s.limits c s.now words s.past) r.bytes;
        on = read_then s.limits c s.past words at on r.on;
        runs = record {
          passed = [];
          all = ap (λ b. (cond b (runs_of c s.past ++ words ∷ []) (runs_of c s.past) ++ []) ++ todo)
              (same_id c)
              ∙ ran_one (runs_of c s.past) r.runs.passed todo (requests_of heard) words
              (r.runs.none (runs_unquit s.limits c s.past on)) r.runs.all;
          none = λ h. refl;
        };
      }

  -- or it is passed over
  done_pass : runs_on s.limits s.past c ≡ false
      → Running todo heard said read (with_past s (gone s.past c).past)
  done_pass off = record {
    bytes = r.bytes;
    on = r.on;
    runs = record {
      passed = r.runs.passed ++ words ∷ [];
      all = passed_one (runs_of c s.past) r.runs.passed todo (requests_of heard) words r.runs.all;
      none = λ h. absurd (both_ways _ h (passed_early s.limits c s.past r.on off));
    };
  }

  run_done : let t : Turn = book_step s.limits s.past (call.Run c words s.now) in
      Running todo heard said read (with_past s t.past)
  run_done =
      let P : Turn → Type 0 = λ t. Running todo heard said read (with_past s t.past) in
      elim (cases_Bool (runs_on s.limits s.past c)) [
        | inl on ↦ subst P (sym (run_step s.limits s.past c s.now words on)) (done_run on)
        | inr off ↦ subst P (sym (gone_step s.limits s.past c s.now words off)) (done_pass off)
      ]

module _ (heard said : List ℕ) where
  run_turn_keeps : (words : List (List ℕ)) (todo : List (List (List ℕ))) (s : Session)
      → Keeps (Running (words ∷ todo) heard said) (Running todo heard said) (Part said) s
      (turned s words (book_step s.limits s.past (call.Run s.link.id words s.now)))
  run_turn_keeps words todo s =
      let t = book_step s.limits s.past (call.Run s.link.id words s.now) in
      keeps_quiet (Running (words ∷ todo) heard said) (Running todo heard said) (Part said) s
      (with_past s t.past) (told s words t) None
      (mute_turn s.link.name s.limits s.names s.link.name words t)
      (λ read r. let d = run_done heard said words todo read s r in (
        running_part (words ∷ todo) heard said read s r,
        (λ e. d),
        running_part todo heard said read
            _ d,
      ))

  running_reader : (todo : List (List (List ℕ))) (read : List ℕ) (s : Session) (reader : Stream)
      → Running todo heard said read s
      → Running todo heard said read (with_link s (with_reader s.link reader))
  running_reader todo read s reader r = grind arith

  run_one_keeps : (words : List (List ℕ)) (todo : List (List (List ℕ))) (s : Session)
      → Keeps (Running (words ∷ todo) heard said) (Running todo heard said) (Part said) s
      (run_one words s)
  unfolding run_one turn
  run_one_keeps words todo s =
      keeps_then (Running (words ∷ todo) heard said) (Running (words ∷ todo) heard said)
      (Running todo heard said) (Part said) s _ _
      (every_quiet s s.link.up s.link.down (next_read s).link.reader (λ h. h))
      (keeps_quiet (Running (words ∷ todo) heard said) (Running (words ∷ todo) heard said)
      (Part said) s (next_read s) [] None refl
      (λ read r. let n = running_reader (words ∷ todo) read s (next_read s).link.reader r in (
        running_part (words ∷ todo) heard said read s r,
        (λ e. n),
        running_part (words ∷ todo) heard said read (next_read s) n,
      )))
      (run_turn_keeps words todo)

  run_all_keeps : (todo : List (List (List ℕ))) (s : Session)
      → Keeps (Running todo heard said) (Running [] heard said) (Part said) s (run_all todo s)
  unfolding run_all
  run_all_keeps [] s =
      keeps_stays (Running [] heard said) (Running [] heard said) (Part said) s s
      (λ read r. (r, running_part [] heard said read s r))
  run_all_keeps (words ∷ todo) s =
      keeps_then (Running (words ∷ todo) heard said) (Running todo heard said)
      (Running [] heard said) (Part said) s (run_one words s) (run_all todo)
      (every_run_one words s) (run_one_keeps words todo s) (run_all_keeps todo)

  run_requests_keeps : (s : Session) → ((parse s.link.reader).fault ≡ None
      → GoesOn parse heard (parse s.link.reader).stream)
      → Keeps (Running (parse s.link.reader).items heard said)
      (Halted (parse s.link.reader).fault heard said) (Part said) s (run_requests s)
  unfolding run_requests
  run_requests_keeps s reading =
      let p = parse s.link.reader in
      keeps_then (Running p.items heard said) (Running [] heard said) (Halted p.fault heard said)
      (Part said) s (run_all p.items s) (rest_read p.stream) (every_run_all p.items s)
      (run_all_keeps p.items s)
      (λ t. keeps_quiet (Running [] heard said) (Halted p.fault heard said) (Part said) t
      (with_link t (with_reader t.link p.stream)) [] None refl
      (λ read r.
      let h : Halted p.fault heard said read (with_link t (with_reader t.link p.stream)) = record {
        bytes = grind arith;
        runs = r.runs;
        reading = reading;
      } in
      (running_part [] heard said read t r, (λ e. h), halted_part p.fault heard said read _ h)))

  -- ---- what stops the reading

  close_keeps : (fault : Option StreamFault) (s : Session)
      → Keeps (Stopping fault heard said) (Account heard said) (Part said) s (close s)
  unfolding close turn
  close_keeps fault s =
      let t = book_step s.limits s.past (call.Close s.link.id) in
      let k = close_carries s in
      keeps_quiet (Stopping fault heard said) (Account heard said) (Part said) s
      (with_past s t.past) (told s [] t) None
      (mute_turn s.link.name s.limits s.names s.link.name [] t)
      (λ read h.
      let a : Account heard said read (with_past s t.past) = record {
        bytes = flight_past heard said read s t.past (gave_close s.limits s.link.id s.past)
            h.halted.bytes;
        runs = ran_grown [] heard s.limits s.link.id k.entries s.past t.past k.grows
            (sym (step_runs s.limits s.link.id s.past (call.Close s.link.id))
            ∙ append-nil (runs_of s.link.id s.past)) h.halted.runs;
        reading = λ on. absurd (both_ways _ (unread_then s.limits s.link.id s.past h.on) on);
      } in
      (halted_part fault heard said read s h.halted, (λ e. a), account_part heard said read _ a))

  stop_open_keeps : (fault : Option StreamFault) (place : Option FaultPlace)
      → (place ≡ None → fault ≡ None) → (eof : Bool) (s : Session)
      → Keeps (Stopping fault heard said) (Account heard said) (Part said) s
      (stop_open place eof s)
  stop_open_keeps fault (Some place) met eof s =
      keeps_then (Stopping fault heard said) (Stopping fault heard said) (Account heard said)
      (Part said) s _ close (every_does s s _
      (carries_link s s.link _ refl refl (λ name n. refl) refl (λ h. h)))
      (keeps_quiet (Stopping fault heard said) (Stopping fault heard said) (Part said) s s _ None
      refl (λ read h. (
        halted_part fault heard said read s h.halted,
        (λ e. h),
        halted_part fault heard said read s h.halted,
      )))
      (close_keeps fault)
  stop_open_keeps fault None met true s = close_keeps fault s
  stop_open_keeps fault None met false s =
      keeps_stays (Stopping fault heard said) (Account heard said) (Part said) s s
      (λ read h. let a : Account heard said read s = record {
        bytes = h.halted.bytes;
        runs = h.halted.runs;
        reading = λ on. h.halted.reading (met refl);
      } in
      (a, account_part heard said read s a))

  stop_keeps : (fault : Option StreamFault) (place : Option FaultPlace)
      → (place ≡ None → fault ≡ None) → (eof : Bool) (s : Session)
      → Keeps (Halted fault heard said) (Account heard said) (Part said) s (stop place eof s)
  stop_keeps fault place met eof s =
      let reads = reads_on s.limits s.past s.link.id in
      elim reads as (λ b. reads ≡ b → Keeps (Halted fault heard said) (Account heard said)
      (Part said) s (cond b (stop_open place eof s) (stays s))) [
        | true ↦ λ on. keeps_from (Halted fault heard said) (Stopping fault heard said)
            (Account heard said) (Part said) s (stop_open place eof s)
            (λ read h. record { halted = h; on = on }) (stop_open_keeps fault place met eof s)
        | false ↦ λ off. keeps_stays (Halted fault heard said) (Account heard said) (Part said) s s
            (λ read h. let a : Account heard said read s = record {
              bytes = h.bytes;
              runs = h.runs;
              reading = λ on. absurd (both_ways _ off on);
            } in
            (a, account_part heard said read s a))
      ] refl

  run_fed_keeps : (eof : Bool) (s : Session) → ((parse s.link.reader).fault ≡ None
      → GoesOn parse heard (parse s.link.reader).stream)
      → Keeps (Running (parse s.link.reader).items heard said) (Account heard said) (Part said) s
      (run_fed eof s)
  unfolding run_fed
  run_fed_keeps eof s reading =
      let p = parse s.link.reader in
      keeps_then (Running p.items heard said) (Halted p.fault heard said) (Account heard said)
      (Part said) s (run_requests s) _ (every_run_requests s) (run_requests_keeps s reading)
      (stop_keeps p.fault (stopped_at p.fault) (parse_met s.link.reader) eof)

-- ---- the server's end reads

module _ (heard said piece : List ℕ) (up : Direction) (eof : Bool) (s : Session)
    (on : reads_on s.limits s.past s.link.id ≡ true)
    (split : piece ++ up.bytes ≡ s.link.up.bytes) (open_before : is_open up.eof ≡ true
    → is_open s.link.up.eof ≡ true) where
  fed_session : Session
  fed_session = with_link s (with_reader (with_up s.link up) (fed s.link.reader piece))

  fed_flight : (read : List ℕ) → InFlight heard said read s
      → InFlight (heard ++ piece) said read fed_session
  unfolding fed_session
  fed_flight read f = grind (arith, append_assoc)

  fed_running : (read : List ℕ) → Account heard said read s
      → Running (parse (fed s.link.reader piece)).items (heard ++ piece) said read fed_session
  unfolding fed_session
  fed_running read a = record {
    bytes = fed_flight read a.bytes;
    on = λ off. absurd (both_ways _ off on);
    runs = record {
      passed = a.runs.passed;
      all = ap (λ x. x ++ (parse (fed s.link.reader piece)).items)
          (sym (append-nil (runs_of s.link.id s.past ++ a.runs.passed)) ∙ a.runs.all)
          ∙ sym ((a.reading on).further piece);
      none = a.runs.none;
    };
  }

  Fed : List ℕ → Session → Type 0
  Fed read t = (t ≡ fed_session) × Running (parse (fed s.link.reader piece)).items (heard
      ++ piece) said read fed_session
      × ((parse (fed s.link.reader piece)).fault ≡ None
      → GoesOn parse (heard ++ piece) (parse (fed s.link.reader piece)).stream)

  fed_run : (t : Session) → Keeps Fed (Account (heard ++ piece) said) (Part said) t (run_fed eof t)
  unfolding Keeps Fed fed_session
  fed_run t read r =
      subst (λ x. Meets (λ u l. Account (heard ++ piece) said (read ++ read_on x.link.name l) u)
      (λ u l. Part said (read ++ read_on x.link.name l) u) (run_fed eof x)) (sym r.0)
      (run_fed_keeps (heard ++ piece) said eof fed_session r.2 read r.1)

  -- a piece is fed, and runs
  fed_keeps : Keeps (Account heard said) (Account (heard ++ piece) said) (Part said) s
      (and_then (feed piece up s) (run_fed eof))
  unfolding fed_session Fed
  fed_keeps =
      let p = parse (fed s.link.reader piece) in
      keeps_then (Account heard said) Fed (Account (heard ++ piece) said) (Part said) s
      (feed piece up s) (run_fed eof)
      (every_quiet s up s.link.down (fed s.link.reader piece) (λ h. h))
      (keeps_quiet (Account heard said) Fed (Part said) s fed_session [] None refl
      (λ read a. let r = fed_running read a in (
        account_part heard said read s a,
        (λ e. (
          refl,
          r,
          goes_further parse heard piece s.link.reader requests_join
              (a.reading on),
        )),
        running_part p.items (heard ++ piece) said read fed_session r,
      )))
      fed_run

unfoldable pub reads_of : Option ℕ → Session → List ℕ
reads_of count s = cond (reads_on s.limits s.past s.link.id) (up_to count s.link.up.bytes) []

pub same_heard : (heard said : List ℕ) (s : Session) (m : Outcome Session)
    → Keeps (Account heard said) (Account heard said) (Part said) s m
    → Keeps (Account heard said) (Account (heard ++ []) said) (Part said) s m
same_heard heard said s m k = grind (arith, append-nil)

pub account_stays : (heard said : List ℕ) (s : Session)
    → Keeps (Account heard said) (Account heard said) (Part said) s (stays s)
account_stays heard said s =
    keeps_stays (Account heard said) (Account heard said) (Part said) s s
    (λ read a. (a, account_part heard said read s a))

pub account_refuses : (heard said : List ℕ) (s : Session)
    → Keeps (Account heard said) (Account heard said) (Part said) s (refuses s NothingThere)
account_refuses heard said s =
    keeps_refuses (Account heard said) (Account heard said) (Part said) s
    (λ read a. account_part heard said read s a)

pub serve_all_keeps : (heard said : List ℕ) (s : Session)
    → Keeps (Account heard said) (Account (heard ++ reads_of None s) said) (Part said) s
    (serve_all s)
unfolding serve_all reads_of
serve_all_keeps heard said s =
    grind (arith, Account, fed_keeps, append-nil, same_heard, account_stays)

pub both : (a b : Bool) → (a && b) ≡ true → a ≡ true
both a b e = grind arith

pub serve_keeps : (heard said : List ℕ) (count : Option ℕ) (s : Session)
    → Keeps (Account heard said) (Account (heard ++ reads_of count s) said) (Part said) s
    (serve count s)
unfolding reads_of
serve_keeps heard said None s = serve_all_keeps heard said s
serve_keeps heard said (Some n) s =
    let can = reads_on s.limits s.past s.link.id && nat_le n (length s.link.up.bytes) in
    elim can as (λ b. can ≡ b
    → Keeps (Account heard said) (Account (heard ++ reads_of (Some n) s) said) (Part said) s
    (cond b (and_then (feed (take n s.link.up.bytes) (without n s.link.up) s) (run_fed false))
    (refuses s NothingThere))) [
      | true ↦ λ t.
          let on = both (reads_on s.limits s.past s.link.id) (nat_le n (length s.link.up.bytes)) t
          in
          subst (λ b. Keeps (Account heard said)
          (Account (heard ++ cond b (take n s.link.up.bytes) []) said) (Part said) s
          (and_then (feed (take n s.link.up.bytes) (without n s.link.up) s) (run_fed false)))
          (sym on)
          (fed_keeps heard said (take n s.link.up.bytes) (without n s.link.up) false s on
          (take-append-drop n s.link.up.bytes) (λ h. h))
      | false ↦ λ t. keeps_refuses (Account heard said)
          (Account (heard ++ reads_of (Some n) s) said) (Part said) s
          (λ read a. account_part heard said read s a)
    ] refl
