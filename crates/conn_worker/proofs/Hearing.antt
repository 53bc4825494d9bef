-- What a read of the link brought, and how the service goes on behind it, or ends.
use Rattle.std.proofs.Common.{◌≡◌, ◌≤◌, ◌+◌, ℕ, List, [], length, true, Some, None, sym, ap}
use Rattle.std.proofs.Common.{subst, ◌∙◌, arith}
use Rattle.std.specs.Prelude.{Option, Err}
use Rattle.std.specs.List.{All}
use Rattle.std.specs.Io.KnownBytes.{Consumes, Keeps}
use Rattle.std.proofs.lemmas.Option.{same_Some}
use Rattle.edge_links.specs.Counts.{IdleCounted}
use Rattle.serial_model.specs.History.{is_admitted}
use Rattle.turn_lock.specs.Own.{past_of, IsWithin}
use Rattle.shared_book.specs.Batches.{IsRunAt, requests_in}
use Rattle.shared_book.specs.Turns.{Place}
use Rattle.conn_worker.specs.declared.report.Ended.{Ended}
use Rattle.conn_worker.specs.declared.connection.Connection.{Connection}
use Rattle.conn_worker.specs.declared.connection.ReadRequests.{ReadRequests}
use Rattle.conn_worker.specs.declared.connection.Stop.{Stop}
use Rattle.conn_worker.specs.declared.serve.Heard.{Heard}
use Rattle.conn_worker.specs.declared.serve.Heard.TheVariants as came
use Rattle.conn_worker.specs.Quits.{ended_at, up_to_quit}
use Rattle.conn_worker.specs.Visits.{Delivers, DeliversPart, DeliveryCounts, Hears, HearsAll, Idle}
use Rattle.conn_worker.specs.Visits.{Idles, Piece, Standing, fed_connection, read_in}
use Rattle.conn_worker.specs.Parts.{Breaks, BreaksAt, InParts}
use Rattle.conn_worker.specs.Rounds.{Reads, most_read}
use Rattle.conn_worker.proofs.Doing.{there_still}
use Rattle.conn_worker.specs.Serving.{Closing, NextRound, Serving}
use Rattle.conn_worker.proofs.Serving.{idle_breaks, idle_serves, passes}
use Rattle.conn_worker.proofs.Serving.{piece_breaks, piece_ends, piece_last, piece_serves}

idle_not : (clock : Option ℕ) (h : Heard) (r : ReadRequests) (old new : Place)
    → Idles clock h old new → read_in h ≡ Some r → ⊥
idle_not clock came.Idle r old new t is = let no : None ≡ Some r = is in cc
idle_not clock (came.Left e) r old new t is = let no : None ≡ Some r = is in cc
idle_not clock (came.Piece x) r old new t is = t

module _ (clock : Option ℕ) (id : ℕ) (c : Connection) (start now : Standing)
    (s : Serving clock id c start now) (most : ℕ) (h : Heard) (read : Connection)
    (middle : Standing) (le : most ≤ most_read)
    (hears : Hears clock most h c read now middle) (kept : Keeps now.contents middle.contents) where
  -- ---- it brought nothing

  record Idled : Type 0 where
    pub same : read ≡ c
    pub idles : Idles clock h now.place middle.place
    pub took : Consumes now.left middle.left []
    pub counted : IdleCounted now.counts middle.counts

  module _ (none : read_in h ≡ None) where
    idled : Idled
    idled = by_case hears
      where
        by_case : Hears clock most h c read now middle → Idled
        by_case (Idle idles same took counted) =
            record { same = same; idles = idles; took = took; counted = counted }
        by_case (Piece r is piece short took counts still all named count) =
            absurd (let no : None ≡ Some r = sym none ∙ ap read_in is in cc)

    idle_id : read.id ≡ id
    idle_id = ap (λ (x : Connection). x.id) idled.same ∙ s.id_is

    pub idle_here : (middle.place.lock ≡ start.place.lock) × IsWithin middle.place
        × (is_admitted (past_of middle.place) read.id ≡ true)
    idle_here =
        let p = passes clock id c start now s h middle idled.idles idled.counted idled.took kept
        in (
          p.grows.lock ∙ s.grows.lock,
          p.grows.within,
          subst (λ n. is_admitted (past_of middle.place) n ≡ true) (sym idle_id)
              (there_still id now.place middle.place p.turns p.grows s.admitted),
        )

    module _ (next : Standing) (unread : Keeps middle.left next.left) where
      pub idle_on : Delivers read.id middle.contents next.contents middle.place next.place
          → next.counts ≡ middle.counts
          → Serving clock id read start next × NextRound clock id start now next
      idle_on d counts =
          subst (λ x. Serving clock id x start next × NextRound clock id start now next)
          (sym idled.same)
          (idle_serves clock id c start now s h middle idled.idles idled.counted idled.took kept
          next unread
          (subst (λ n. Delivers n middle.contents next.contents middle.place next.place) idle_id d)
          counts)

      pub idle_off : (cause : Ended)
          → DeliversPart cause read.id middle.contents next.contents middle.place next.place
          → DeliveryCounts (Err cause) middle.counts next.counts
          → Closing clock cause id read.requests start now next
      idle_off cause d counts =
          subst (λ (x : Connection). Closing clock cause id x.requests start now next)
          (sym idled.same)
          (idle_breaks clock id c start now s h middle idled.idles idled.counted idled.took kept
          next unread cause
          (subst (λ n. DeliversPart cause n middle.contents next.contents middle.place next.place)
          idle_id d) counts)

  -- ---- it brought a piece

  record Brought (r : ReadRequests) : Type 0 where
    pub piece : List ℕ
    pub reads : Reads piece now middle
    pub all : HearsAll clock r (fed_connection c piece) read
    pub id_is : read.id ≡ c.id
    pub count_is : read.requests ≡ c.requests

  module _ (r : ReadRequests) (some : read_in h ≡ Some r) where
    brought : Brought r
    brought = by_case hears
      where
        by_case : Hears clock most h c read now middle → Brought r
        by_case (Idle idles same took counted) =
            absurd (idle_not clock h r now.place middle.place idles some)
        by_case (Piece x is piece short took counts still all named count) =
            subst Brought (same_Some x r (sym (ap read_in is) ∙ some)) (record {
              piece = piece;
              reads = record {
                short = omega (arith, short, le);
                took = took;
                kept = kept;
                counts = counts;
                place = still;
              };
              all = all;
              id_is = named;
              count_is = count;
            })

    piece_id : read.id ≡ id
    piece_id = brought.id_is ∙ s.id_is

    pub piece_here : (middle.place.lock ≡ start.place.lock) × IsWithin middle.place
        × (is_admitted (past_of middle.place) read.id ≡ true)
        × (read.requests ≤ length middle.place.seen)
    piece_here =
        let still = brought.reads.place in (
          ap (λ (k : Place). k.lock) still ∙ s.grows.lock,
          subst IsWithin (sym still) s.grows.within,
          subst (λ n. is_admitted (past_of middle.place) n ≡ true) (sym piece_id)
              (subst (λ k. is_admitted (past_of k) id ≡ true) (sym still) s.admitted),
          omega (arith, brought.count_is, s.fits, ap (λ (k : Place). length k.seen) still),
        )

    pub piece_runs : All (IsRunAt read.id r.now) r.calls.items
    piece_runs =
        subst (λ n. All (IsRunAt n r.now) r.calls.items) (sym brought.id_is) brought.all.runs

    pub piece_quits : up_to_quit (requests_in r.calls.items) ≡ requests_in r.calls.items
    piece_quits =
        piece_last clock id c start now s brought.piece (requests_in r.calls.items)
        brought.all.reads.items

    module _ (next : Standing) (unread : Keeps middle.left next.left) where
      module _ (parts : InParts r.now read.id (requests_in r.calls.items) middle next)
          (counts : next.counts ≡ middle.counts) where
        here : InParts r.now id (requests_in r.calls.items) middle next
        here = subst (λ n. InParts r.now n (requests_in r.calls.items) middle next) piece_id parts

        pub piece_on : (after : Connection) → r.stop ≡ None → after.reader ≡ read.reader
            → after.id ≡ read.id
            → after.requests ≡ read.requests + length (requests_in r.calls.items)
            → after.requests ≤ length next.place.seen
            → Serving clock id after start next × NextRound clock id start now next
        piece_on after none same named count fits =
            piece_serves clock id c start now s brought.piece middle next brought.reads unread r
            read brought.all here counts after none same (named ∙ piece_id)
            (omega (arith, count, brought.count_is)) fits

        pub piece_over : (e : Stop) (count : ℕ) → r.stop ≡ Some e
            → count ≡ read.requests + length (requests_in r.calls.items)
            → Closing clock (ended_at e) id count start now next
        piece_over e count is counted =
            piece_ends clock id c start now s brought.piece middle next brought.reads unread r
            read brought.all here counts e count is (omega (arith, counted, brought.count_is))

      pub piece_off : (cause : Ended) (count : ℕ)
          → BreaksAt r.now cause read.id (requests_in r.calls.items) read.requests count middle next
          → DeliveryCounts (Err cause) middle.counts next.counts
          → Closing clock cause id count start now next
      piece_off cause count (ran, is, b) counts =
          piece_breaks clock id c start now s brought.piece middle next brought.reads unread cause
          (requests_in r.calls.items) r.now ran count brought.all.reads.items brought.all.at
          (subst (λ n. Breaks r.now cause n (requests_in r.calls.items) ran middle next) piece_id b)
          (omega (arith, is, brought.count_is)) counts
