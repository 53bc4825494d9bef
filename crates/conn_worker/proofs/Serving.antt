-- A connection is served round by round: its link is read, its requests run, and what waits for it
-- is written.
use Rattle.std.proofs.Common.{◌≡◌, ◌≤◌, ◌+◌, ℕ, List, [], ◌++◌, length, take, true, false, Some}
use Rattle.std.proofs.Common.{None}
use Rattle.std.proofs.Common.{refl, sym, ap, subst, ◌∙◌, arith, append_assoc, append-nil, inl, inr}
use Rattle.std.proofs.Common.{length-append}
use Rattle.std.specs.Prelude.{Option, Err, ◌⊎◌, IfSome}
use Rattle.std.specs.List.{All}
use Rattle.std.specs.Io.KnownBytes.{Appends, Consumes, Keeps}
use Rattle.std.proofs.lemmas.List.{length-take-le}
use Rattle.std.proofs.lemmas.List.Elements.{All-append}
use Rattle.std.proofs.lemmas.Option.{same_Some}
use Rattle.resp_stream.specs.Parse.{parse, requests_of}
use Rattle.resp_stream.specs.Stream.{fed}
use Rattle.resp_stream.proofs.Onward.{GoesOn}
use Rattle.serial_model.specs.History.{is_admitted, reads_on, taken}
use Rattle.turn_lock.specs.Own.{past_of, Grows}
use Rattle.turn_lock.proofs.Growing.{grows_none, grows_then, grows_past, grows_stands}
use Rattle.shared_book.specs.Batches.{requests_in}
use Rattle.shared_book.specs.Turns.{Place, Turn, limits_in, limits_of, Admits}
use Rattle.shared_book.specs.Turns.{IsServerCause, Refuses}
use Rattle.shared_book.specs.declared.turns.Refusal.{Refusal}
use Rattle.shared_book.specs.declared.turns.Refusal.TheVariants as refusal
use Rattle.shared_book.proofs.Histories.{begins_lift, admitted_more, admitted_now}
use Rattle.edge_links.specs.declared.counts.Counts.{Counts}
use Rattle.edge_links.specs.Counts.{IdleCounted}
use Rattle.edge_links.proofs.Bytes.{appends_none, appends_more, appends_kept, consumes_kept}
use Rattle.edge_links.proofs.Bytes.{consumes_more, keeps_same}
use Rattle.conn_worker.specs.declared.report.Ended.{Ended}
use Rattle.conn_worker.specs.declared.report.Ended.TheVariants as ended
use Rattle.conn_worker.specs.declared.connection.Connection.{Connection}
use Rattle.conn_worker.specs.declared.connection.ReadRequests.{ReadRequests}
use Rattle.conn_worker.specs.declared.connection.Stop.{Stop}
use Rattle.conn_worker.specs.declared.connection.Stop.TheVariants.{Fault, Quit}
use Rattle.conn_worker.specs.declared.serve.Heard.{Heard}
use Rattle.conn_worker.specs.declared.serve.Heard.TheVariants as came
use Rattle.conn_worker.specs.Elsewhere.{HasQuit, closes_in, quits_in}
use Rattle.conn_worker.specs.Quits.{ended_at, fault_in, has_quit, stop_in, up_to_quit}
use Rattle.conn_worker.specs.Visits.{IsWork, IsEnd, IsTaken, IsWhole, IsShown, Idles}
use Rattle.conn_worker.specs.Visits.{runs_in, gave, fed_connection, Delivers, DeliversPart}
use Rattle.conn_worker.specs.Visits.{EndCounts, HearsAll, HearsPart, Works}
use Rattle.conn_worker.specs.Visits.{Nothing, Unticked, Unread, DeliveryCounts, LinkEnds, Standing}
use Rattle.conn_worker.specs.Visits.{EndsService, ended_by}
use Rattle.conn_worker.specs.Parts.{Breaks, InParts, Refused, Requests, Writes}
use Rattle.conn_worker.specs.Rounds.{most_read, AreNew, Reads, Round, Rounds, Serves, Onward}
use Rattle.conn_worker.specs.Rounds.{TicksOrLeaves, Waits, Waited, Came, AtEnd, NoTick}
use Rattle.conn_worker.specs.Rounds.{LastRound, Undelivered, Broken, NoFurther}
use Rattle.conn_worker.specs.Serving.{Closing, EndRound, NextRound, Serving}
use Rattle.conn_worker.proofs.Doing.{Done, Cut, breaks_cut, cut_by, done_by, gave_joined}
use Rattle.conn_worker.proofs.Doing.{in_parts_done, runs_joined, there_still}
use Rattle.conn_worker.proofs.Running.{none_ran}
use Rattle.conn_worker.proofs.Turning.{all_taken}
use Rattle.conn_worker.proofs.Ticking.{Passes, idles_pass}
use Rattle.conn_worker.proofs.Leaving.{had_ended_any, had_ended_behind}
use Rattle.conn_worker.proofs.Stopping.{NoQuits, any_quit, new_quit, none_in, none_stopped}
use Rattle.conn_worker.proofs.Stopping.{ran_quit, stopped_quits, unclosed_in, until_all}
use Rattle.conn_worker.proofs.Stopping.{until_twice}
use Rattle.conn_worker.proofs.Further.{prefix_behind, read_further, stop_further, until_further}

no_stop : (o : Option Stop) (e : Stop) → o ≡ None → o ≡ Some e → ⊥
no_stop o e none is = let no : None ≡ Some e = sym none ∙ is in cc

-- where a turn was refused, or a write failed, the end was not read
end_broken : (cause : Ended) (id : ℕ) (ts : List Turn) (k : Place) → IsEnd cause id ts k
    → IsWhole cause → ⊥
end_broken cause id ts k e w = grind arith

cut_broken : (cause : Ended) (id : ℕ) (ts : List Turn) (k : Place)
    → (cause ≡ ended.LinkFault) ⊎ IsEnd cause id ts k → IsWhole cause → ⊥
cut_broken cause id ts k (inl failed) w = subst IsWhole failed w
cut_broken cause id ts k (inr e) w = end_broken cause id ts k e w

-- whatever turns it is behind
end_any : (cause : Ended) (id : ℕ) (ts : List Turn) (k : Place) → IsEnd cause id ts k
    → IsEnd cause id [] k
end_any ended.PeerEnd id ts k e = absurd e
end_any ended.Quit id ts k e = absurd e
end_any ended.Dropped id ts k e = had_ended_any id ts k e
end_any (ended.BadRequest f) id ts k e = absurd e
end_any ended.LinkFault id ts k e = absurd e
end_any ended.NoMemory id ts k e = tt
end_any ended.Worn id ts k e = e
end_any ended.Stopped id ts k e = absurd e

cut_any : (cause : Ended) (id : ℕ) (ts : List Turn) (k : Place)
    → (cause ≡ ended.LinkFault) ⊎ IsEnd cause id ts k
    → (cause ≡ ended.LinkFault) ⊎ IsEnd cause id [] k
cut_any cause id ts k (inl failed) = inl failed
cut_any cause id ts k (inr e) = inr (end_any cause id ts k e)

-- the counts of a link at which the service ended by a turn or a write
cut_counts : (cause : Ended) (id : ℕ) (ts : List Turn) (k : Place) (a b : Counts)
    → (cause ≡ ended.LinkFault) ⊎ IsEnd cause id ts k → DeliveryCounts (Err cause) a b
    → EndCounts cause a b
cut_counts cause id ts k a b e h = by_case cause e h
  where
    same : b ≡ a → (b.faults ≡ a.faults) × (b.ends ≡ a.ends)
    same is = (ap (λ (k : Counts). k.faults) is, ap (λ (k : Counts). k.ends) is)

    by_case : (cause : Ended) → (cause ≡ ended.LinkFault) ⊎ IsEnd cause id ts k
        → DeliveryCounts (Err cause) a b → EndCounts cause a b
    by_case cause e h = grind (arith, same)

-- nor is one behind which nothing is read
stop_counts : (e : Stop) (a b : Counts) → b.faults ≡ a.faults → b.ends ≡ a.ends
    → EndCounts (ended_at e) a b
stop_counts (Fault f) a b faults ends = (faults, ends)
stop_counts Quit a b faults ends = (faults, ends)

counts_from : (cause : Ended) (a b c : Counts) → b.faults ≡ a.faults → b.ends ≡ a.ends
    → EndCounts cause b c → EndCounts cause a c
counts_from cause a b c faults ends h = grind arith

appends_from : (a b c : Option (List ℕ)) (bs : List ℕ) → Keeps a b → Appends b c bs
    → Appends a c bs
appends_from a b c bs kept w =
    appends_more a b c [] bs (appends_kept a a b [] (appends_none a) kept) w

idle_ticks : (clock : Option ℕ) (h : Heard) (old new : Place) → Idles clock h old new
    → TicksOrLeaves clock old new
idle_ticks clock came.Idle old new t = inl t
idle_ticks clock (came.Left e) old new t = inr (e, t.1, t.0)
idle_ticks clock (came.Piece r) old new t = absurd t

some_moment : (clock : Option ℕ) → (now : ℕ) × IfSome clock (λ m. now ≡ m)
some_moment None = (0, tt)
some_moment (Some m) = (m, refl)

module _ (clock : Option ℕ) (id : ℕ) (c : Connection) (start now : Standing)
    (s : Serving clock id c start now) where
  limits_same : limits_of now.place ≡ limits_of start.place
  limits_same = ap limits_in s.grows.setup

  -- what was read has no QUIT and no fault
  heard_none : NoQuits (requests_of s.heard) × (fault_in s.heard ≡ None)
  heard_none = none_stopped (requests_of s.heard) (fault_in s.heard) s.sound

  until_heard : runs_in s.turns ≡ up_to_quit (requests_of s.heard)
  until_heard = s.runs ∙ sym (until_all (requests_of s.heard) heard_none.0)

  -- no QUIT and no Close is among its turns
  quits_none : quits_in id s.turns ≡ 0
  quits_none = none_in id s.turns (subst NoQuits (sym s.runs) heard_none.0)

  closes_none : closes_in id s.turns ≡ 0
  closes_none = unclosed_in id id clock s.turns s.work

  end_shown_by : (cause : Ended) (heard : List ℕ) (ts : List Turn) (last : Place)
      → IsEnd cause id ts last → IsShown cause id heard (ts ++ s.turns) last
  end_shown_by ended.PeerEnd heard ts last e = absurd e
  end_shown_by ended.Quit heard ts last e = absurd e
  end_shown_by ended.Dropped heard ts last e =
      had_ended_behind id ts s.turns last closes_none quits_none e
  end_shown_by (ended.BadRequest f) heard ts last e = absurd e
  end_shown_by ended.LinkFault heard ts last e = absurd e
  end_shown_by ended.NoMemory heard ts last e = tt
  end_shown_by ended.Worn heard ts last e = e
  end_shown_by ended.Stopped heard ts last e = absurd e

  end_shown : (cause : Ended) (heard : List ℕ) (ts : List Turn) (last : Place)
      → (cause ≡ ended.LinkFault) ⊎ IsEnd cause id ts last
      → IsShown cause id heard (ts ++ s.turns) last
  end_shown cause heard ts last (inl failed) =
      subst (λ z. IsShown z id heard (ts ++ s.turns) last) (sym failed) tt
  end_shown cause heard ts last (inr e) = end_shown_by cause heard ts last e

  gave_all : (ts : List Turn) → gave (limits_of start.place) (ts ++ s.turns)
      ≡ gave (limits_of start.place) s.turns ++ gave (limits_of start.place) ts
  gave_all ts = gave_joined (limits_of start.place) ts s.turns

  runs_all : (ts : List Turn) → runs_in (ts ++ s.turns) ≡ requests_of s.heard ++ runs_in ts
  runs_all ts = runs_joined ts s.turns ∙ ap (λ z. z ++ runs_in ts) s.runs

  runs_count : (ts : List Turn) → length (runs_in (ts ++ s.turns)) ≡ c.requests
      + length (runs_in ts)
  runs_count ts =
      omega (
        arith,
        s.counted,
        ap length (runs_joined ts s.turns),
        length-append (runs_in s.turns) (runs_in ts),
      )

  -- ---- the last round

  served : (cause : Ended) (heard : List ℕ) (next : Standing)
      → LastRound clock cause id s.heard heard now next
      → ((e : Stop) → stop_in heard ≡ Some e
      → (cause ≡ ended_at e) ⊎ (cause ≡ ended.LinkFault) ⊎ IsEnd cause id [] next.place)
      → Serves clock cause id start next
  served cause heard next last told = record {
    before = s.heard;
    middle = now;
    rounds = s.rounds;
    sound = s.sound;
    after = heard;
    last = last;
    told = told;
  }

  ending : (cause : Ended) (heard : List ℕ) (next : Standing)
      → LastRound clock cause id s.heard heard now next → EndRound clock cause id start now next
  ending cause heard next last =
      record { before = s.heard; after = heard; rounds = s.rounds; last = last }

  -- ---- a round

  module _ (heard piece : List ℕ) (is : heard ≡ s.heard ++ piece) (ws : Requests)
      (new : AreNew s.heard heard ws) (link : Option (List ℕ)) (kept : Keeps now.contents link)
      (next : Standing) (took : Consumes now.left next.left piece) where
    all_read : Consumes start.left next.left heard
    all_read = subst (Consumes start.left next.left) (sym is)
        (consumes_more start.left now.left next.left s.heard piece s.read took)

    module _ (d : Done clock id (limits_of start.place) ws link next.contents now.place next.place)
      where
        all_runs : runs_in (d.turns ++ s.turns) ≡ up_to_quit (requests_of heard)
        all_runs = runs_all d.turns ∙ ap (λ z. requests_of s.heard ++ z) d.runs ∙ sym new

        all_wrote : Appends start.contents next.contents
            (gave (limits_of start.place) (d.turns ++ s.turns))
        all_wrote =
            subst (Appends start.contents next.contents) (sym (gave_all d.turns))
            (appends_more start.contents now.contents next.contents _ _ s.wrote
            (appends_from now.contents link next.contents _ kept d.wrote))

        all_caught : reads_on (limits_of start.place) (past_of next.place) id ≡ true
            → All (IsTaken (limits_of start.place) id
            (taken (limits_of start.place) id (past_of next.place))) (d.turns ++ s.turns)
        all_caught keeps =
            let n = taken (limits_of start.place) id (past_of next.place) in
            All-append (IsTaken (limits_of start.place) id n) d.turns s.turns (d.was_taken keeps)
            (all_taken (limits_of start.place) id (past_of now.place) n s.turns (d.caught_up keeps)
            (grows_stands start.place now.place s.turns s.grows))

        all_count : length (runs_in (d.turns ++ s.turns)) ≡ c.requests + length ws
        all_count = omega (arith, runs_count d.turns, ap length d.runs)

        still : is_admitted (past_of next.place) id ≡ true
        still = there_still id now.place next.place d.turns d.grows s.admitted

        pub goes_on : (after : Connection) → stop_in heard ≡ None → GoesOn parse heard after.reader
            → after.id ≡ id → after.requests ≡ c.requests + length ws
            → after.requests ≤ length next.place.seen → Round clock id s.heard heard now next
            → next.counts.faults ≡ now.counts.faults → next.counts.ends ≡ now.counts.ends
            → Serving clock id after start next × NextRound clock id start now next
        goes_on after none reads same count fits round faults ends = (
          record {
            turns = d.turns ++ s.turns;
            grows = grows_then start.place now.place next.place s.turns d.turns s.grows d.grows;
            work = All-append (IsWork id clock) d.turns s.turns d.work s.work;
            id_is = same;
            counted = count ∙ sym all_count;
            fits = fits;
            heard = heard;
            read = all_read;
            rounds = Onward s.heard heard now next s.rounds round;
            reading = reads;
            sound = none;
            runs = all_runs ∙ until_all (requests_of heard)
                (none_stopped (requests_of heard) (fault_in heard) none).0;
            wrote = all_wrote;
            was_taken = all_caught;
            admitted = still;
            faults = faults ∙ s.faults;
            ends = ends ∙ s.ends;
          },
          record { before = s.heard; after = heard; rounds = s.rounds; round = round },
        )

        -- a QUIT ran, where one stopped the reader
        quit_ran : stop_in heard ≡ Some Quit → any_quit (runs_in (d.turns ++ s.turns)) ≡ true
        quit_ran stops =
            ap any_quit all_runs ∙ stopped_quits (requests_of heard) (fault_in heard) stops

        quit_shown : stop_in heard ≡ Some Quit
            → (has_quit id (past_of next.place) ≡ true) × HasQuit id next.place
        quit_shown stops = (
          ran_quit clock id (past_of next.place) (d.turns ++ s.turns)
              (All-append (IsWork id clock) d.turns s.turns d.work s.work)
              (grows_stands start.place next.place (d.turns ++ s.turns)
              (grows_then start.place now.place next.place s.turns d.turns s.grows d.grows))
              (quit_ran stops),
          d.quits (quit_new stops),
        )
          where
            quit_new : stop_in heard ≡ Some Quit → any_quit ws ≡ true
            quit_new stops = new_quit (requests_of s.heard) ws heard_none.0
                (ap any_quit (sym new) ∙ stopped_quits (requests_of heard) (fault_in heard) stops)

        stop_shown : (e : Stop) → stop_in heard ≡ Some e
            → IsShown (ended_at e) id heard (d.turns ++ s.turns) next.place
        stop_shown (Fault f) stops = stops
        stop_shown Quit stops = (stops, (quit_shown stops).0, (quit_shown stops).1)

        pub goes_no_further : (e : Stop) (count : ℕ) → stop_in heard ≡ Some e
            → count ≡ c.requests + length ws → Round clock id s.heard heard now next
            → next.counts.faults ≡ now.counts.faults → next.counts.ends ≡ now.counts.ends
            → Closing clock (ended_at e) id count start now next
        goes_no_further e count stops counts round faults ends = record {
          works = record {
            turns = d.turns ++ s.turns;
            grows = grows_then start.place now.place next.place s.turns d.turns s.grows d.grows;
            work = All-append (IsWork id clock) d.turns s.turns d.work s.work;
            counted = counts ∙ sym all_count;
            heard = heard;
            read = all_read;
            bytes = gave (limits_of start.place) (d.turns ++ s.turns);
            wrote = all_wrote;
            runs = ([], append-nil (runs_in (d.turns ++ s.turns)) ∙ all_runs);
            front = ([], append-nil (gave (limits_of start.place) (d.turns ++ s.turns)));
            all_ran = λ w. all_runs;
            all_wrote = λ w. refl;
            all_taken = λ w. all_caught;
            shown = stop_shown e stops;
          };
          serves = served (ended_at e) heard next (NoFurther e refl stops round)
              (λ g same. inl (ap ended_at (same_Some e g (sym stops ∙ same))));
          counts = stop_counts e start.counts next.counts (faults ∙ s.faults) (ends ∙ s.ends);
          round = ending (ended_at e) heard next (NoFurther e refl stops round);
        }

    -- the service ended in it
    pub breaks_off : (cause : Ended) (ran count : ℕ)
        → (d : Cut clock cause id (limits_of start.place) ws ran link next.contents now.place
        next.place) → count ≡ c.requests + ran
        → LastRound clock cause id s.heard heard now next
        → ((e : Stop) → stop_in heard ≡ Some e
        → (cause ≡ ended_at e) ⊎ (cause ≡ ended.LinkFault) ⊎ IsEnd cause id [] next.place)
        → EndCounts cause now.counts next.counts → Closing clock cause id count start now next
    breaks_off cause ran count d counts last told ends = record {
      works = record {
        turns = d.turns ++ s.turns;
        grows = grows_then start.place now.place next.place s.turns d.turns s.grows d.grows;
        work = All-append (IsWork id clock) d.turns s.turns d.work s.work;
        counted = omega (arith, counts, d.count, runs_count d.turns);
        heard = heard;
        read = all_read;
        bytes = gave (limits_of start.place) s.turns ++ d.bytes;
        wrote = appends_more start.contents now.contents next.contents _ _ s.wrote
            (appends_from now.contents link next.contents _ kept d.wrote);
        runs = prefix_behind (requests_of s.heard) (runs_in d.turns) ws
            (runs_in (d.turns ++ s.turns)) (up_to_quit (requests_of heard)) (runs_all d.turns) new
            d.runs;
        front = (
          d.front.0,
          append_assoc (gave (limits_of start.place) s.turns) d.bytes d.front.0
              ∙ ap (λ z. gave (limits_of start.place) s.turns ++ z) d.front.1
              ∙ sym (gave_all d.turns),
        );
        all_ran = λ w. absurd (cut_broken cause id d.turns next.place d.cause_is w);
        all_wrote = λ link. ap (λ z. gave (limits_of start.place) s.turns ++ z) (d.all_wrote link)
            ∙ sym (gave_all d.turns);
        all_taken = λ w. absurd (cut_broken cause id d.turns next.place d.cause_is w);
        shown = end_shown cause heard d.turns next.place d.cause_is;
      };
      serves = served cause heard next last told;
      counts = counts_from cause start.counts now.counts next.counts s.faults s.ends ends;
      round = ending cause heard next last;
    }

  -- ---- a read that brought nothing

  idle_new : AreNew s.heard s.heard []
  idle_new = until_all (requests_of s.heard) heard_none.0
      ∙ sym (append-nil (requests_of s.heard))

  idle_heard : s.heard ≡ s.heard ++ []
  idle_heard = sym (append-nil s.heard)

  no_quit_in : any_quit [] ≡ true → ⊥
  no_quit_in any = let no : false ≡ true = any in cc

  module _ (h : Heard) (middle : Standing) (idles : Idles clock h now.place middle.place)
      (counted : IdleCounted now.counts middle.counts) (took : Consumes now.left middle.left [])
      (kept : Keeps now.contents middle.contents) where
    waits : Waits clock now middle
    waits = record {
      took = took;
      kept = kept;
      counted = counted;
      ticks = idle_ticks clock h now.place middle.place idles;
    }

    pub passes : Passes clock id now.place middle.place
    passes = idles_pass clock id now.place middle.place h idles

    pass_none : gave (limits_of start.place) passes.turns ≡ []
    pass_none = ap (λ z. gave z passes.turns) (sym limits_same) ∙ passes.gave_none

    module _ (next : Standing) (unread : Keeps middle.left next.left) where
      idle_took : Consumes now.left next.left []
      idle_took = consumes_kept now.left middle.left next.left [] took unread

      pub idle_serves : Delivers id middle.contents next.contents middle.place next.place
          → next.counts ≡ middle.counts
          → Serving clock id c start next × NextRound clock id start now next
      idle_serves d counts =
          let w : Writes id middle next
          = record { delivers = d; unread = unread; counts = counts } in
          let done = done_by clock id (limits_of start.place) [] middle.contents next.contents
          now.place middle.place next.place passes.turns limits_same passes.grows passes.work
          pass_none passes.runs_none (λ any. absurd (no_quit_in any)) d in
          let zero : c.requests ≡ c.requests + 0 = omega arith in
          let more = ap length done.grows.seen.1 in
          let seen = length-append done.grows.seen.0 now.place.seen in
          goes_on s.heard [] idle_heard [] idle_new middle.contents kept next idle_took done c
          s.sound s.reading s.id_is zero (omega (arith, s.fits, more, seen))
          (Waited middle refl waits w)
          (ap (λ (k : Counts). k.faults) counts ∙ counted.1)
          (ap (λ (k : Counts). k.ends) counts ∙ counted.2)

      pub idle_breaks : (cause : Ended)
          → DeliversPart cause id middle.contents next.contents middle.place next.place
          → DeliveryCounts (Err cause) middle.counts next.counts
          → Closing clock cause id c.requests start now next
      idle_breaks cause d counts =
          let cut = cut_by clock id (limits_of start.place) [] middle.contents next.contents
          now.place middle.place next.place passes.turns limits_same passes.grows passes.work
          pass_none passes.runs_none (λ any. absurd (no_quit_in any)) cause [] s.admitted d in
          let zero : c.requests ≡ c.requests + 0 = omega arith in
          breaks_off s.heard [] idle_heard [] idle_new middle.contents kept next idle_took cause 0
          c.requests cut zero
          (Undelivered middle refl waits d counts unread)
          (λ e stops. absurd (no_stop (stop_in s.heard) e s.sound stops))
          (counts_from cause now.counts middle.counts next.counts counted.1 counted.2
          (cut_counts cause id cut.turns next.place middle.counts next.counts cut.cause_is counts))

  -- ---- a read that brought a piece

  piece_new : (piece : List ℕ) (ws : Requests) → ws ≡ up_to_quit (parse (fed c.reader piece)).items
      → AreNew s.heard (s.heard ++ piece) ws
  piece_new piece ws is =
      until_further s.heard piece c.reader s.reading s.sound
      ∙ ap (λ z. requests_of s.heard ++ z) (sym is)

  pub piece_last : (piece : List ℕ) (ws : Requests)
      → ws ≡ up_to_quit (parse (fed c.reader piece)).items → up_to_quit ws ≡ ws
  piece_last piece ws is =
      ap up_to_quit is ∙ until_twice (parse (fed c.reader piece)).items ∙ sym is

  module _ (piece : List ℕ) (middle next : Standing) (reads : Reads piece now middle)
      (unread : Keeps middle.left next.left) where
    piece_took : Consumes now.left next.left piece
    piece_took = consumes_kept now.left middle.left next.left piece reads.took unread

    limits_read : limits_of middle.place ≡ limits_of start.place
    limits_read = ap limits_of reads.place ∙ limits_same

    module _ (r : ReadRequests) (read : Connection)
        (h : HearsAll clock r (fed_connection c piece) read)
        (parts : InParts r.now id (requests_in r.calls.items) middle next)
        (counts : next.counts ≡ middle.counts) where
      ws : Requests
      ws = requests_in r.calls.items

      done : Done clock id (limits_of start.place) ws middle.contents next.contents now.place
          next.place
      unfolding ws
      done = subst (λ k. Done clock id (limits_of start.place) ws middle.contents next.contents k
          next.place) reads.place
          (in_parts_done clock r.now id (limits_of start.place) h.at ws middle next limits_read
          parts)

      round : Round clock id s.heard (s.heard ++ piece) now next
      unfolding ws
      round = Came middle piece ws r.now refl reads (piece_new piece ws h.reads.items) h.at parts

      stop_at : r.stop ≡ stop_in (s.heard ++ piece)
      stop_at = h.reads.stop_is ∙ sym (stop_further s.heard piece c.reader s.reading s.sound)

      faults_same : next.counts.faults ≡ now.counts.faults
      faults_same = ap (λ (k : Counts). k.faults) (counts ∙ reads.counts)

      ends_same : next.counts.ends ≡ now.counts.ends
      ends_same = ap (λ (k : Counts). k.ends) (counts ∙ reads.counts)

      pub piece_serves : (after : Connection) → r.stop ≡ None → after.reader ≡ read.reader
          → after.id ≡ id → after.requests ≡ c.requests + length (requests_in r.calls.items)
          → after.requests ≤ length next.place.seen
          → Serving clock id after start next × NextRound clock id start now next
      unfolding ws
      piece_serves after none same named count fits =
          goes_on (s.heard ++ piece) piece refl ws (piece_new piece ws h.reads.items)
          middle.contents reads.kept next piece_took done after (sym stop_at ∙ none)
          (subst (GoesOn parse (s.heard ++ piece)) (sym same)
          (read_further s.heard piece c read r.stop s.reading h.reads.stop_is h.reads.reader none))
          named count fits round faults_same ends_same

      pub piece_ends : (e : Stop) (count : ℕ) → r.stop ≡ Some e
          → count ≡ c.requests + length (requests_in r.calls.items)
          → Closing clock (ended_at e) id count start now next
      unfolding ws
      piece_ends e count is counted =
          goes_no_further (s.heard ++ piece) piece refl ws (piece_new piece ws h.reads.items)
          middle.contents reads.kept next piece_took done e count (sym stop_at ∙ is) counted round
          faults_same ends_same

    pub piece_breaks : (cause : Ended) (ws : Requests) (moment ran count : ℕ)
        → ws ≡ up_to_quit (parse (fed c.reader piece)).items → IfSome clock (λ m. moment ≡ m)
        → Breaks moment cause id ws ran middle next → count ≡ c.requests + ran
        → DeliveryCounts (Err cause) middle.counts next.counts
        → Closing clock cause id count start now next
    piece_breaks cause ws moment ran count is at b counted counts =
        let on = subst (λ k. is_admitted (past_of k) id ≡ true) (sym reads.place) s.admitted in
        let cut = subst (λ k. Cut clock cause id (limits_of start.place) ws ran middle.contents
        next.contents k next.place) reads.place
        (breaks_cut clock moment id (limits_of start.place) at cause ws ran middle next limits_read
        on (piece_last piece ws is) b) in
        breaks_off (s.heard ++ piece) piece refl ws (piece_new piece ws is) middle.contents
        reads.kept next piece_took cause ran count cut counted
        (Broken middle piece ws moment ran refl reads (piece_new piece ws is) at b)
        (λ e stops. inr (cut_any cause id cut.turns next.place cut.cause_is))
        (counts_from cause now.counts middle.counts next.counts
        (ap (λ (k : Counts). k.faults) reads.counts) (ap (λ (k : Counts). k.ends) reads.counts)
        (cut_counts cause id cut.turns next.place middle.counts next.counts cut.cause_is counts))

  -- ---- the service ended at the read

  -- nothing more was read, and no turn was added
  rest_works : (cause : Ended) (next : Standing) → Grows now.place next.place []
      → IsShown cause id s.heard s.turns next.place
      → (IsWhole cause → reads_on (limits_of start.place) (past_of next.place) id ≡ true
      → All (IsTaken (limits_of start.place) id
      (taken (limits_of start.place) id (past_of next.place))) s.turns)
      → Consumes now.left next.left [] → Keeps now.contents next.contents
      → Works clock cause id c.requests start.left next.left start.contents next.contents
      start.place next.place
  rest_works cause next g shown all took kept = record {
    turns = s.turns;
    grows = grows_then start.place now.place next.place s.turns [] s.grows g;
    work = s.work;
    counted = s.counted;
    heard = s.heard;
    read = subst (Consumes start.left next.left) (append-nil s.heard)
        (consumes_more start.left now.left next.left s.heard [] s.read took);
    bytes = gave (limits_of start.place) s.turns;
    wrote = appends_kept start.contents now.contents next.contents _ s.wrote kept;
    runs = ([], append-nil (runs_in s.turns) ∙ until_heard);
    front = ([], append-nil (gave (limits_of start.place) s.turns));
    all_ran = λ w. until_heard;
    all_wrote = λ w. refl;
    all_taken = all;
    shown = shown;
  }

  ends_shown : (cause : Ended) (k l : Counts) → LinkEnds cause k l
      → IsShown cause id s.heard s.turns now.place
  ends_shown ended.PeerEnd k l e = s.sound
  ends_shown ended.Quit k l e = absurd e
  ends_shown ended.Dropped k l e = absurd e
  ends_shown (ended.BadRequest f) k l e = absurd e
  ends_shown ended.LinkFault k l e = tt
  ends_shown ended.NoMemory k l e = absurd e
  ends_shown ended.Worn k l e = absurd e
  ends_shown ended.Stopped k l e = absurd e

  -- nothing came, and the Tick was refused
  unticked_shown : (e : Refusal) (last : Place) → EndsService e → IsServerCause e last
      → IsShown (ended_by e) id s.heard s.turns last
  unticked_shown refusal.Dropped last ends h = absurd ends
  unticked_shown refusal.NoMemory last ends h = absurd ends
  unticked_shown refusal.Worn last ends h = h
  unticked_shown refusal.Stopped last ends h = (s.sound, h)

  unticked_broken : (e : Refusal) → EndsService e → IsWhole (ended_by e) → ⊥
  unticked_broken refusal.Dropped ends w = absurd ends
  unticked_broken refusal.NoMemory ends w = absurd ends
  unticked_broken refusal.Worn ends w = w
  unticked_broken refusal.Stopped ends w = w

  nothing_more : (cause : Ended) (next : Standing) → LinkEnds cause now.counts next.counts
      → next.place ≡ now.place → Consumes now.left next.left []
      → Keeps now.contents next.contents → EndCounts cause now.counts next.counts
      → Closing clock cause id c.requests start now next
  nothing_more cause next ends still took kept counts = record {
    works = rest_works cause next
        (subst (λ k. Grows now.place k []) (sym still) (grows_none now.place s.grows.within))
        (subst (IsShown cause id s.heard s.turns) (sym still)
        (ends_shown cause now.counts next.counts ends))
        (λ w. subst (λ k. reads_on (limits_of start.place) (past_of k) id ≡ true
        → All (IsTaken (limits_of start.place) id
        (taken (limits_of start.place) id (past_of k))) s.turns) (sym still) s.was_taken)
        took kept;
    serves = served cause s.heard next (AtEnd ends refl still took kept)
        (λ e stops. absurd (no_stop (stop_in s.heard) e s.sound stops));
    counts = counts_from cause start.counts now.counts next.counts s.faults s.ends counts;
    round = ending cause s.heard next (AtEnd ends refl still took kept);
  }

  unticked : (e : Refusal) (next : Standing) → EndsService e
      → Refuses IsServerCause e now.place next.place → Consumes now.left next.left []
      → IdleCounted now.counts next.counts → Keeps now.contents next.contents
      → EndCounts (ended_by e) now.counts next.counts
      → Closing clock (ended_by e) id c.requests start now next
  unticked e next ends r took counted kept counts = record {
    works = rest_works (ended_by e) next r.grows (unticked_shown e next.place ends r.cause_is)
        (λ w. absurd (unticked_broken e ends w)) took kept;
    serves = served (ended_by e) s.heard next (NoTick e ends refl counted refl r took kept)
        (λ f stops. absurd (no_stop (stop_in s.heard) f s.sound stops));
    counts = counts_from (ended_by e) start.counts now.counts next.counts s.faults s.ends counts;
    round = ending (ended_by e) s.heard next (NoTick e ends refl counted refl r took kept);
  }

  -- memory ran out for what was read
  unread_breaks : (piece : List ℕ) (next : Standing) → length piece ≤ most_read
      → Consumes now.left next.left piece → Keeps now.contents next.contents
      → next.counts ≡ now.counts → next.place ≡ now.place
      → Closing clock ended.NoMemory id c.requests start now next
  unread_breaks piece next short took kept counts still =
      let reads : Reads piece now next = record {
        short = short;
        took = took;
        kept = kept;
        counts = counts;
        place = still;
      } in
      let (moment, at) = some_moment clock in
      let ws = up_to_quit (parse (fed c.reader piece)).items in
      let within = subst (λ k. Grows now.place k []) (sym still)
      (grows_none now.place s.grows.within) in
      let (some, none) = none_ran moment id ws next.place within.within in
      piece_breaks piece next next reads (keeps_same next.left) ended.NoMemory ws moment 0
      c.requests refl at
      (Refused [] ws next next.place refl (λ one. absurd (omega (arith, one))) refl some
      (omega (arith, none)) refl)
      (omega arith) refl

  pub hears_stops : (most : ℕ) (cause : Ended) (after : Connection) (next : Standing)
      → most ≤ most_read → HearsPart clock most cause c after now next
      → Keeps now.contents next.contents → EndCounts cause now.counts next.counts
      → Closing clock cause id after.requests start now next
  hears_stops most cause after next le (Nothing ends same still took) kept counts =
      subst (λ (x : Connection). Closing clock cause id x.requests start now next) (sym same)
      (nothing_more cause next ends still took kept counts)
  hears_stops most cause after next le (Unticked e ends is r same took counted) kept counts =
      subst (λ (x : Connection). Closing clock cause id x.requests start now next) (sym same)
      (subst (λ z. Closing clock z id c.requests start now next) (sym is)
      (unticked e next ends r took counted kept
      (subst (λ z. EndCounts z now.counts next.counts) is counts)))
  hears_stops most cause after next le (Unread is piece short took same still count) kept
      counts =
      subst (λ n. Closing clock cause id n start now next) (sym count)
      (subst (λ z. Closing clock z id c.requests start now next) (sym is)
      (unread_breaks piece next (omega (arith, short, le)) took kept same still))

-- of the same connection
pub serves_as : (clock : Option ℕ) (cause : Ended) (old new : Standing) (n m : ℕ) → n ≡ m
    → Serves clock cause n old new → Serves clock cause m old new
serves_as clock cause old new n m is s = subst (λ k. Serves clock cause k old new) is s

-- a piece is no longer than what it was read into
pub piece_short : (n : ℕ) (bytes : List ℕ) (most : ℕ) → n ≤ length bytes → length bytes ≡ most
    → length (take n bytes) ≤ most
piece_short n bytes most le is = omega (arith, length-take-le n bytes le, le, is)

pub works_admitted : (clock : Option ℕ) (cause : Ended) (id name requests : ℕ)
    (left0 left1 link0 link1 : Option (List ℕ)) (old first last : Place) → Admits id old first
    → name ≡ id → Works clock cause name requests left0 left1 link0 link1 first last
    → is_admitted (past_of last) id ≡ true
works_admitted clock cause id name requests left0 left1 link0 link1 old first last a same w =
    begins_lift (λ past. is_admitted past id ≡ true) (admitted_more id) (past_of first)
    (past_of last) (grows_past first last w.turns w.grows) (grind (arith, admitted_now))
