-- How each turn keeps what a book knows of its history.
use Rattle.std.proofs.Common.{◌≡◌, ◌+◌, ◌-◌, ◌<◌, ◌≤◌, ℕ, List, [], ◌∷◌, ◌++◌, length, take, drop}
use Rattle.std.proofs.Common.{sym, subst}
use Rattle.std.proofs.Common.{ap, ◌∙◌, refl, arith, Bool, true, false, cond, length-append}
use Rattle.std.proofs.Common.{ne_eqb, eq-eqb, length-set, Option, Some, Result, Err, max}
use Rattle.std.proofs.Common.{slice_index_or, inl, inr}
use Prim.Native.Nat.{suc}
use Rattle.std.specs.Prelude.{◌==◌}
use Rattle.std.specs.FinMap.{empty}
use Rattle.std.specs.List.{count_by}
use Rattle.std.proofs.lemmas.List.Sums.{sum_by-cons, sum_by-set, sum_by_push}
use Rattle.std.proofs.lemmas.List.Sums.{get_or-le-sum_by}
use Rattle.std.proofs.lemmas.List.{get_or_push, get_or_append_left}
use Rattle.std.proofs.lemmas.Bool.{cases_eq, cases_lt, and_parts}
use Rattle.track_modes.specs.ModeState.{ModeState, new_mode}
use Rattle.command_words.specs.declared.command.Command.{Command}
use Rattle.command_words.specs.declared.command.WordFault.{WordFault}
use Rattle.command_words.specs.declared.command.WordFault.TheVariants.{NoMemory}
use Rattle.command_words.specs.Reading.{IsReading}
use Rattle.command_words.specs.Space.{Space}
use Rattle.serial_model.specs.declared.history.Limits.{Limits}
use Rattle.serial_model.specs.declared.history.Entry.{Entry}
use Rattle.serial_model.specs.declared.history.Entry.TheVariants as entry
use Rattle.serial_model.specs.declared.history.BookCall.{BookCall}
use Rattle.serial_model.specs.declared.history.BookCall.TheVariants.{Admit, Run, Take, Close}
use Rattle.serial_model.specs.declared.history.BookReply.{BookReply}
use Rattle.serial_model.specs.declared.history.BookReply.TheVariants.{Admitted, Bytes, Closed}
use Rattle.serial_model.specs.declared.history.BookReply.TheVariants.{Ran}
use Rattle.serial_model.specs.declared.history.Post.{Post}
use Rattle.serial_model.specs.declared.effect.Effect.{Effect}
use Rattle.serial_model.specs.declared.effect.EntryKind.TheVariants as kind
use Rattle.serial_model.specs.declared.standing.Standing.{Standing}
use Rattle.serial_model.specs.EntryEffects.{bare_effect, command_of, dropped_by, last_effect}
use Rattle.serial_model.specs.Actions.{Action}
use Rattle.serial_model.specs.History.{is_admitted}
use Rattle.serial_model.specs.History.{admitted, runs_on, gives_on, reads_on, unsent, state}
use Rattle.serial_model.specs.History.{IsLegal, is_stopped}
use Rattle.serial_model.specs.History.{posted, table, latest, run_action, served_reading}
use Rattle.server_book.specs.declared.book.RunDone.{RunDone}
use Rattle.serial_model.specs.State.{keeps_bytes, closed as closed_of}
use Rattle.serial_model.specs.Steps.{book_step, AddsEntry, BookStep}
use Rattle.serial_model.proofs.Fresh.{fresh_is_first}
use Rattle.serial_model.proofs.KeptTables.{is_table}
use Rattle.serial_model.proofs.Turning.{admit_step, run_step, take_step, close_step}
use Rattle.serial_model.proofs.Streams.{admitted_id, runs_read, unsent_admit, unsent_fresh}
use Rattle.serial_model.proofs.Streams.{unsent_close_own, unsent_close_other}
use Rattle.serial_model.proofs.Streams.{unsent_taken, unsent_take_other}
use Rattle.server_book.specs.Places.{Connection, fresh, gone, kept_broken, kept_mode}
use Rattle.server_book.specs.Connections.{ConnectionsState, IsId, IsOpen, connection_at, is_open}
use Rattle.server_book.specs.Connections.{with_connection}
use Rattle.server_book.specs.Sendings.{end_posts}
use Rattle.server_book.specs.Stores.{IsHeld}
use Rattle.server_book.proofs.Sendings.{at_same, at_other}
use Rattle.track_table.specs.Table.{TableState, without_connection}
use Rattle.prefix_table.specs.declared.table.Registration.{Registration}
use Rattle.prefix_table.specs.Table as registrations
use Rattle.serial_model.proofs.TableSize.{table_within}
use Rattle.server_book.specs.BookState.{BookState, IsTurn, Agrees, HasRoom, HasRun, connection_of}
use Rattle.server_book.specs.BookState.{IsBook}
use Rattle.server_book.specs.declared.stores.Stores.{Stores}
use Rattle.server_book.specs.Log.{LogState}

-- ---- a connection by its id

-- connections of equal parts
pub same_parts : {q r : List ℕ} {a b : Standing} {m n : ModeState} {x y : Bool} → q ≡ r → a ≡ b
    → m ≡ n → x ≡ y
    → (let c : Connection = record { queue = q; standing = a; mode = m; is_broken = x } in
    let d : Connection = record { queue = r; standing = b; mode = n; is_broken = y } in c ≡ d)
same_parts {q} {r} {a} {b} {m} {n} {x} {y} e f g h = grind arith

pub same_kept : {a b : Standing} {m n : ModeState} → a ≡ b → m ≡ n → kept_mode a m ≡ kept_mode b n
same_kept {a} {b} {m} {n} e f = grind arith

pub same_broken : {a b : Standing} {x y : Bool} → a ≡ b → x ≡ y
    → kept_broken a x ≡ kept_broken b y
same_broken {a} {b} {x} {y} e f = grind arith

pub live_mode : (x : Standing) (m : ModeState) → keeps_bytes x ≡ true → kept_mode x m ≡ m
live_mode x m on = grind arith

gone_mode : (x : Standing) (m : ModeState) → kept_mode (closed_of x) m ≡ new_mode
gone_mode x m = grind arith

gone_broken : (x : Standing) (b : Bool) → kept_broken (closed_of x) b ≡ false
gone_broken x b = grind arith

never_broken : (x : Standing) (b : Bool) → b ≡ false → kept_broken x b ≡ false
never_broken x b h = grind arith

-- ---- what is kept of a connection, entry by entry

module _ (l : Limits) (past : List Entry) (c : ℕ) where
  pub kept_admit : (id : ℕ) → connection_of l (entry.Admit id ∷ past) c ≡ connection_of l past c
  unfolding state
  kept_admit id = same_parts (unsent_admit l past c id) refl refl refl

  pub kept_fresh : IsLegal l past → admitted past < c → connection_of l past c ≡ fresh
  kept_fresh h lt =
      let first = fresh_is_first l c past h lt in
      same_parts (unsent_fresh l past c h lt) first.standing
      (same_kept first.standing first.mode)
      (never_broken ((state l past).standing c) ((state l past).broken c) first.broken)

  pub kept_take_other : (id m : ℕ) → (id == c) ≡ false
      → connection_of l (entry.Take id m ∷ past) c ≡ connection_of l past c
  unfolding state
  kept_take_other id m other = same_parts (unsent_take_other l past c id m other) refl refl refl

  pub kept_close_other : (id : ℕ) → (id == c) ≡ false
      → connection_of l (entry.Close id ∷ past) c ≡ connection_of l past c
  unfolding state
  kept_close_other id other =
      let s = state l past in
      let stays = ap (λ b. cond b (closed_of (s.standing id)) (s.standing c)) other in
      same_parts (unsent_close_other l past c id other) stays (same_kept stays refl)
      (same_broken stays refl)

module _ (l : Limits) (past : List Entry) (id : ℕ) where
  same_id : (id == id) ≡ true
  same_id = eq-eqb id id refl

  pub kept_take : (m : ℕ)
      → (let c = connection_of l past id in
      connection_of l (entry.Take id m ∷ past) id ≡ record c { queue = drop m c.queue })
  unfolding state
  kept_take m = same_parts (unsent_taken l past id id m same_id) refl refl refl

  pub kept_close : (let c = connection_of l past id in
      connection_of l (entry.Close id ∷ past) id
      ≡ gone c)
  unfolding state
  kept_close =
      let s = state l past in
      let ends = ap (λ b. cond b (closed_of (s.standing id)) (s.standing id)) same_id in
      same_parts (unsent_close_own l past id id same_id) ends
      (same_kept ends refl ∙ gone_mode (s.standing id) (s.modes id))
      (same_broken ends refl ∙ gone_broken (s.standing id) (s.broken id))

-- ---- room for closes

abbrev pub one_open : Connection → ℕ
one_open c = cond (is_open c) 1 0

one_within : (c d : Connection) → (is_open d ≡ true → is_open c ≡ true) → one_open d ≤ one_open c
one_within c d h = grind arith

-- where those that are open were open, they are no more than before
pub open_within : (old new : List Connection) → length new ≡ length old
    → ((i : ℕ) → i < length old → is_open (slice_index_or new i fresh) ≡ true
    → is_open (slice_index_or old i fresh) ≡ true)
    → count_by is_open new ≤ count_by is_open old
open_within [] [] same h = omega arith
open_within [] (d ∷ ds) same h = absurd (omega arith)
open_within (c ∷ cs) [] same h = absurd (omega arith)
open_within (c ∷ cs) (d ∷ ds) same h =
    let rest = open_within cs ds (omega arith) (λ i lt. h (suc i) (omega (arith, lt))) in
    let old = sum_by-cons one_open c cs in
    let new = sum_by-cons one_open d ds in
    omega (arith, rest, old, new, one_within c d (h 0 (omega arith)))

pub room_admit : (closable : ℕ) (cs : List Connection) → HasRoom closable cs
    → HasRoom (closable + 1) (cs ++ fresh ∷ [])
room_admit closable cs h = omega (arith, h, sum_by_push one_open cs fresh)

closed_keeps : (x : Standing) → keeps_bytes (closed_of x) ≡ false
closed_keeps x = grind arith

pub room_close : (room left id : ℕ) (cs : List Connection) → HasRoom room cs → IsId cs id
    → keeps_bytes (connection_at cs id).standing ≡ true → left ≡ room - 1
    → (let c = connection_at cs id in
    HasRoom left (with_connection cs id (gone c)))
room_close room left id cs h on keeps e = grind (arith, sum_by-set, closed_keeps)

pub some_open : (room id : ℕ) (cs : List Connection) → HasRoom room cs → IsId cs id
    → keeps_bytes (connection_at cs id).standing ≡ true → 0 < room
some_open room id cs h on keeps = grind (arith, get_or-le-sum_by)

module _ (l : Limits) (past : List Entry) (space : Space) (keys : TableState)
    (rs : List Registration) (cs : List Connection) (k : Agrees l past space keys rs cs) where
  -- a connection that may do something was admitted
  pub reads_there : (id : ℕ) → reads_on l past id ≡ true → is_admitted past id ≡ true
  reads_there id on = (and_parts (is_admitted past id) _ on).0

  pub gives_there : (id : ℕ) → gives_on l past id ≡ true → is_admitted past id ≡ true
  gives_there id on = (and_parts (is_admitted past id) _ on).0

  pub runs_there : (id : ℕ) → runs_on l past id ≡ true → is_admitted past id ≡ true
  runs_there id on = (and_parts (is_admitted past id) _ on).0

  -- and is there
  pub is_id : (id : ℕ) → is_admitted past id ≡ true → IsId cs id
  is_id id on = let both = admitted_id past id on in (both.0, omega (arith, both.1, k.count))

  -- how far it has ended
  pub stands_at : (i : ℕ) → i < length cs
      → (slice_index_or cs i fresh).standing ≡ (state l past).standing (i + 1)
  stands_at i lt =
      ap (λ n. (slice_index_or cs n fresh).standing) (let e : i ≡ i + 1 - 1 = omega arith in e)
      ∙ ap (λ (c : Connection). c.standing) (k.each (i + 1) (omega arith, omega (arith, lt)))

  -- what is kept of it
  pub kept_of : (id : ℕ) → is_admitted past id ≡ true
      → connection_at cs id ≡ connection_of l past id
  kept_of id on = k.each id (is_id id on)

  -- the new connection has nothing
  with_one : (id i : ℕ) → IsId (cs ++ fresh ∷ []) i
      → connection_at (cs ++ fresh ∷ []) i ≡ connection_of l (entry.Admit id ∷ past) i
  with_one id i h =
      let pos = h.0 in
      let le = h.1 in
      let size = length-append cs (fresh ∷ []) in
      let count = k.count in
      elim (cases_lt (i - 1) (length cs)) [
        | inl lt ↦
            get_or_append_left cs (fresh ∷ []) fresh (i - 1) lt
            ∙ k.each i (pos, omega (arith, lt, pos)) ∙ sym (kept_admit l past i id)
        | inr ge ↦
            get_or_push cs fresh fresh (i - 1) (omega (arith, ge, pos, le, size))
            ∙ sym (kept_admit l past i id
            ∙ kept_fresh l past i k.legal (omega (arith, ge, pos, count)))
      ]

  pub agrees_admit : (id : ℕ) → is_stopped l past ≡ false → id ≡ length cs + 1
      → Agrees l (entry.Admit id ∷ past) space keys rs (cs ++ fresh ∷ [])
  unfolding state
  agrees_admit id goes e = record {
    legal = (goes, e ∙ ap (λ n. n + 1) k.count, k.legal);
    space_is = k.space_is;
    table_is = k.table_is;
    prefixes_are = k.prefixes_are;
    count = length-append cs (fresh ∷ []) ∙ ap (λ n. n + 1) k.count;
    each = with_one id;
  }

  -- where the connection of an id was written, and the others stay
  each_with : (new : List Entry) (id : ℕ) (c : Connection) → IsId cs id → c ≡ connection_of l new id
      → ((other : ℕ) → (id == other) ≡ false → connection_of l new other
      ≡ connection_of l past other)
      → (i : ℕ) → IsId (with_connection cs id c) i
      → connection_at (with_connection cs id c) i ≡ connection_of l new i
  each_with new id c on own others i h =
      grind (arith, cases_eq, at_same, length-set, at_other, ne_eqb)

  pub is_held : IsHeld keys.limit keys.rows
  is_held = grind (arith, is_table, table_within)

  abbrev pub took : ℕ → ℕ → Connection
  took id m = let c = connection_at cs id in record c { queue = drop m c.queue }

  pub agrees_take : (id m : ℕ) → gives_on l past id ≡ true
      → (take m (unsent l id past) ≡ [] → ⊥)
      → Agrees l (entry.Take id m ∷ past) space keys rs (with_connection cs id (took id m))
  unfolding state
  agrees_take id m on some = record {
    legal = (on, some, k.legal);
    space_is = k.space_is;
    table_is = k.table_is;
    prefixes_are = k.prefixes_are;
    count = length-set cs (id - 1) (took id m) ∙ k.count;
    each = each_with (entry.Take id m ∷ past) id (took id m) (is_id id (gives_there id on))
        (ap (λ (c : Connection). record c { queue = drop m c.queue })
        (kept_of id (gives_there id on)) ∙ sym (kept_take l past id m))
        (λ other ne. kept_take_other l past other id m ne);
  }

  pub open_at : (id : ℕ) → reads_on l past id ≡ true
      → keeps_bytes (connection_at cs id).standing ≡ true
  open_at id on =
      ap (λ (c : Connection). keeps_bytes c.standing) (kept_of id (reads_there id on))
      ∙ (and_parts (is_admitted past id) _ on).1

  -- one that runs is open, and its mode is kept
  pub opened : (id : ℕ) → runs_on l past id ≡ true → IsOpen cs id
  opened id on = (is_id id (runs_there id on), open_at id (runs_read l past id on))

  pub mode_of : (id : ℕ) → runs_on l past id ≡ true
      → (connection_at cs id).mode ≡ (state l past).modes id
  mode_of id on =
      let c = kept_of id (runs_there id on) in
      ap (λ (c : Connection). c.mode) c
      ∙ live_mode ((state l past).standing id) ((state l past).modes id)
      (sym (ap (λ (c : Connection). keeps_bytes c.standing) c)
      ∙ open_at id (runs_read l past id on))

  abbrev pub closed : ℕ → Connection
  closed id = gone (connection_at cs id)

  pub agrees_close : (id : ℕ) → reads_on l past id ≡ true
      → (let rows = table l (entry.Close id ∷ past) in
      Agrees l (entry.Close id ∷ past) space (record { limit = l.table_max; rows = rows })
      (state l (entry.Close id ∷ past)).prefixes (with_connection cs id (closed id)))
  unfolding state
  agrees_close id on = record {
    legal = (on, k.legal);
    space_is = k.space_is;
    table_is = refl;
    prefixes_are = refl;
    count = length-set cs (id - 1) (closed id) ∙ k.count;
    each = each_with (entry.Close id ∷ past) id (closed id) (is_id id (reads_there id on))
        (ap gone (kept_of id (reads_there id on)) ∙ sym (kept_close l past id))
        (λ other ne. kept_close_other l past other id ne);
  }

-- the connections as a turn begins
pub is_fresh : (s : ConnectionsState) → s.posts ≡ [] → s.lost ≡ [] → s.drops ≡ []
    → s ≡ record { items = s.items; posts = []; lost = []; drops = [] }
is_fresh s none unlost undropped =
    ap (λ x. record { items = s.items; posts = x; lost = s.lost; drops = s.drops }) none
    ∙ ap (λ x. record { items = s.items; posts = []; lost = x; drops = s.drops }) unlost
    ∙ ap (λ x. record { items = s.items; posts = []; lost = []; drops = x }) undropped

-- equal parts agree with the same past
pub agrees_as : (l : Limits) (past : List Entry) (space : Space) (t u : TableState)
    (rs qs : List Registration) (cs ds : List Connection) → u ≡ t → qs ≡ rs → ds ≡ cs
    → Agrees l past space t rs cs → Agrees l past space u qs ds
agrees_as l past space t u rs qs cs ds tables prefixes connections k =
    subst (λ x. Agrees l past space x qs ds) (sym tables)
    (subst (λ x. Agrees l past space t x ds) (sym prefixes)
    (subst (Agrees l past space t rs) (sym connections) k))

-- a book before its first turn
fresh_agrees : (l : Limits)
    → Agrees l [] empty (record { limit = l.table_max; rows = [] }) [] []
unfolding state
fresh_agrees l = record {
  legal = tt;
  space_is = refl;
  table_is = refl;
  prefixes_are = refl;
  count = refl;
  each = λ id on. absurd (omega (arith, on.0, on.1));
}

goes_at_first : (l : Limits) → is_stopped l [] ≡ false
unfolding state
goes_at_first l = refl

pub begins : (l : Limits) (log : LogState) (stores : Stores) → log.past ≡ []
    → log.most ≡ l.history_max → stores.space ≡ empty
    → stores.table ≡ record { limit = l.table_max; rows = [] } → stores.prefixes ≡ []
    → stores.connections.items ≡ [] → stores.connections.lost ≡ []
    → IsBook l false log stores
begins l log stores none most space rows unregistered nobody none_lost = record {
  agrees = subst (λ p. Agrees l p stores.space stores.table stores.prefixes
      stores.connections.items) (sym none)
      (subst (λ s. Agrees l [] s stores.table stores.prefixes stores.connections.items) (sym space)
      (subst (λ t. Agrees l [] empty t stores.prefixes stores.connections.items) (sym rows)
      (subst (λ rs. Agrees l [] empty (record { limit = l.table_max; rows = [] }) rs
      stores.connections.items) (sym unregistered)
      (subst (Agrees l [] empty (record { limit = l.table_max; rows = [] }) []) (sym nobody)
      (fresh_agrees l)))));
  most_is = most;
  room = subst (HasRoom log.closable) (sym nobody) (omega arith);
  none_lost = none_lost;
  stopped_is = sym (ap (is_stopped l) none ∙ goes_at_first l);
}

pub table_close : (l : Limits) (past : List Entry) (id : ℕ)
    → table l (entry.Close id ∷ past) ≡ without_connection id (table l past)
unfolding state
table_close l past id = refl

pub prefixes_close : (l : Limits) (past : List Entry) (id : ℕ)
    → (state l (entry.Close id ∷ past)).prefixes
    ≡ registrations.without_connection id (state l past).prefixes
unfolding state
prefixes_close l past id = refl

-- an entry after which those can be closed that could before
pub room_kept : (l : Limits) (past : List Entry) (e : Entry) (closable : ℕ) (space : Space)
    (keys : TableState) (rs : List Registration) (cs : List Connection)
    → Agrees l past space keys rs cs
    → (then : Space) (left : TableState) (stay : List Registration) (ds : List Connection)
    → Agrees l (e ∷ past) then left stay ds → length ds ≡ length cs
    → ((i : ℕ) → keeps_bytes ((state l (e ∷ past)).standing i)
    ≡ keeps_bytes ((state l past).standing i))
    → HasRoom closable cs → HasRoom closable ds
room_kept l past e closable space keys rs cs k then left stay ds a same stand h =
    let within = open_within cs ds same (λ i lt on.
    ap keeps_bytes (stands_at l past space keys rs cs k i lt) ∙ sym (stand (i + 1))
    ∙ sym (ap keeps_bytes (stands_at l (e ∷ past) then left stay ds a i (omega (arith, lt, same))))
    ∙ on) in
    omega (arith, h, within)

pub take_stands : (l : Limits) (past : List Entry) (id m i : ℕ)
    → keeps_bytes ((state l (entry.Take id m ∷ past)).standing i)
    ≡ keeps_bytes ((state l past).standing i)
unfolding state
take_stands l past id m i = refl

-- ---- turns as they are played

-- a turn is the step, where it added the step's entry, sent its posts and says what its effect is
pub is_turn : (old : BookState) (l : Limits) (past new : List Entry) (posts sent : List Post)
    (drops dropped : List ℕ) (was effect : Option Effect) (e : Entry) (call : BookCall)
    (reply : BookReply)
    → (let b : BookState = record {
      limits = l;
      past = past;
      posts = posts;
      drops = drops;
      effect = was;
    } in b ≡ old)
    → AddsEntry reply → new ≡ e ∷ past
    → book_step l past call ≡ record { reply = reply; past = e ∷ past } → sent ≡ posted l (e ∷ past)
    → dropped ≡ dropped_by l (e ∷ past) → effect ≡ last_effect l (e ∷ past)
    → IsTurn old call reply
    (record { limits = l; past = new; posts = sent; drops = dropped; effect = effect })
is_turn old l past new posts sent drops dropped was effect e call reply view adds grown step
    posted_is left told =
    grind arith

-- the newest entry is that of the step
pub admit_turned : (l : Limits) (past : List Entry) (n id : ℕ) → is_stopped l past ≡ false
    → n ≡ length past + 1 → id ≡ admitted past + 1
    → book_step l past Admit ≡ record { reply = Admitted n id; past = entry.Admit id ∷ past }
admit_turned l past n id goes h i =
    admit_step l past goes
    ∙ ap (λ x. record {
      reply = Admitted x (admitted past + 1);
      past = entry.Admit (admitted past + 1) ∷ past;
    }) (sym h)
    ∙ ap (λ x. record { reply = Admitted n x; past = entry.Admit x ∷ past }) (sym i)

pub take_turned : (l : Limits) (past : List Entry) (id most n : ℕ) (bytes : List ℕ)
    → gives_on l past id ≡ true
    → n ≡ length past + 1 → bytes ≡ take most (unsent l id past) → 0 < length bytes
    → book_step l past (Take id most)
    ≡ record { reply = Bytes n bytes; past = entry.Take id most ∷ past }
take_turned l past id most n bytes on h e some = grind (arith, take_step)

pub close_turned : (l : Limits) (past : List Entry) (id n : ℕ) → reads_on l past id ≡ true
    → n ≡ length past + 1
    → book_step l past (Close id) ≡ record { reply = Closed n; past = entry.Close id ∷ past }
close_turned l past id n on h = grind (arith, close_step)

-- what each entry sends
pub posted_close : (l : Limits) (past : List Entry) (id n : ℕ) → n ≡ length past + 1
    → end_posts n id ((state l past).standing id) ≡ posted l (entry.Close id ∷ past)
unfolding posted
posted_close l past id n h = grind arith

pub posted_admit : (l : Limits) (past : List Entry) (id : ℕ) → [] ≡ posted l (entry.Admit id ∷ past)
unfolding posted
posted_admit l past id = refl

pub posted_take : (l : Limits) (past : List Entry) (id m : ℕ)
    → [] ≡ posted l (entry.Take id m ∷ past)
unfolding posted
posted_take l past id m = refl

-- whom it drops
pub dropped_admit : (l : Limits) (past : List Entry) (id : ℕ)
    → [] ≡ dropped_by l (entry.Admit id ∷ past)
unfolding dropped_by
dropped_admit l past id = refl

pub dropped_take : (l : Limits) (past : List Entry) (id m : ℕ)
    → [] ≡ dropped_by l (entry.Take id m ∷ past)
unfolding dropped_by
dropped_take l past id m = refl

pub dropped_close : (l : Limits) (past : List Entry) (id : ℕ)
    → [] ≡ dropped_by l (entry.Close id ∷ past)
unfolding dropped_by
dropped_close l past id = refl

-- whether a SHUTDOWN ran then
pub stopped_admit : (l : Limits) (past : List Entry) (id : ℕ)
    → is_stopped l (entry.Admit id ∷ past) ≡ is_stopped l past
unfolding state
stopped_admit l past id = refl

pub stopped_take : (l : Limits) (past : List Entry) (id m : ℕ)
    → is_stopped l (entry.Take id m ∷ past) ≡ is_stopped l past
unfolding state
stopped_take l past id m = refl

pub stopped_close : (l : Limits) (past : List Entry) (id : ℕ)
    → is_stopped l (entry.Close id ∷ past) ≡ is_stopped l past
unfolding state
stopped_close l past id = refl

-- and what its effect is
pub effect_admit : (l : Limits) (past : List Entry) (id n : ℕ) → n ≡ length past + 1
    → Some (bare_effect n id kind.Admit) ≡ last_effect l (entry.Admit id ∷ past)
unfolding last_effect
effect_admit l past id n h = ap (λ x. Some (bare_effect x id kind.Admit)) h

pub effect_take : (l : Limits) (past : List Entry) (id m n size : ℕ) → n ≡ length past + 1
    → size ≡ length (take m (unsent l id past))
    → Some (bare_effect n id (kind.Take size)) ≡ last_effect l (entry.Take id m ∷ past)
unfolding last_effect
effect_take l past id m n size h e =
    ap (λ x. Some (bare_effect x id (kind.Take size))) h
    ∙ ap (λ x. Some (bare_effect (length past + 1) id (kind.Take x))) e

pub effect_close : (l : Limits) (past : List Entry) (id n : ℕ) → n ≡ length past + 1
    → Some (bare_effect n id kind.Close) ≡ last_effect l (entry.Close id ∷ past)
unfolding last_effect
effect_close l past id n h = ap (λ x. Some (bare_effect x id kind.Close)) h

module _ (l : Limits) (past : List Entry) (id now : ℕ) (words : List (List ℕ)) where
  abbrev moment : ℕ
  moment = max now (latest past)

  abbrev t : Action
  t = run_action id words moment (state l past)

  pub effect_run : (n : ℕ) (command : Option Command) (done : RunDone) → n ≡ length past + 1
      → command ≡ command_of ((state l past).modes id) (served_reading words)
      → done.expired ≡ t.expired
      → done.reply ≡ t.effect.reply → done.signalled ≡ t.effect.signalled
      → (let e : Effect = record {
        entry = n;
        id = id;
        command = command;
        expired = done.expired;
        reply = done.reply;
        signalled = done.signalled;
        kind = kind.Run;
      } in Some e ≡ last_effect l (entry.Run id words moment ∷ past))
  unfolding last_effect
  effect_run n command done number ran expired reply signalled = grind arith

-- what a Run has done, and that its turn is the step
module _ (l : Limits) (past new : List Entry) (posts sent : List Post) (drops dropped : List ℕ)
    (was : Option Effect) (id now : ℕ) (words : List (List ℕ)) (done : RunDone) where
  abbrev before : BookState
  before = record { limits = l; past = past; posts = posts; drops = drops; effect = was }

  abbrev behind : BookState
  behind = record { limits = l; past = new; posts = sent; drops = dropped; effect = was }

  has_run_at : (m : ℕ) → m ≡ max now (latest past) → new ≡ entry.Run id words m ∷ past
      → runs_on l past id ≡ true
      → sent ≡ posted l (entry.Run id words m ∷ past)
      → dropped ≡ dropped_by l (entry.Run id words m ∷ past)
      → done.entry ≡ length past + 1
      → done.expired ≡ (run_action id words m (state l past)).expired
      → done.reply ≡ (run_action id words m (state l past)).effect.reply
      → done.signalled ≡ (run_action id words m (state l past)).effect.signalled
      → HasRun before id words now done behind
  has_run_at m mo grown on posted_is dropped_is number expired reply signalled =
      let s = state l past in
      let e = entry.Run id words (max now (latest past)) in
      let is : new ≡ e ∷ past = grown ∙ ap (λ x. entry.Run id words x ∷ past) mo in record {
        turn = is_turn before l past new posts sent drops dropped was (last_effect l new) e
            (Run id words now) (Ran (length past + 1)) refl tt is (run_step l past id now words on)
            (posted_is ∙ ap (λ x. posted l (entry.Run id words x ∷ past)) mo)
            (dropped_is ∙ ap (λ x. dropped_by l (entry.Run id words x ∷ past)) mo)
            (ap (last_effect l) is);
        entry = number;
        past = is;
        expired = expired ∙ ap (λ x. (run_action id words x s).expired) mo;
        reply = reply ∙ ap (λ x. (run_action id words x s).effect.reply) mo;
        signalled = signalled ∙ ap (λ x. (run_action id words x s).effect.signalled) mo;
      }

  pub has_run : (old : BookState) → before ≡ old → (m : ℕ) → m ≡ max now (latest past)
      → new ≡ entry.Run id words m ∷ past → runs_on l past id ≡ true
      → sent ≡ posted l (entry.Run id words m ∷ past)
      → dropped ≡ dropped_by l (entry.Run id words m ∷ past)
      → done.entry ≡ length past + 1
      → done.expired ≡ (run_action id words m (state l past)).expired
      → done.reply ≡ (run_action id words m (state l past)).effect.reply
      → done.signalled ≡ (run_action id words m (state l past)).effect.signalled
      → HasRun old id words now done behind
  has_run old view m mo grown on posted_is dropped_is number expired reply signalled =
      subst (λ o. HasRun o id words now done behind) view
      (has_run_at m mo grown on posted_is dropped_is number expired reply signalled)

-- and once its effect is told
pub run_told : (old mid : BookState) (id now : ℕ) (words : List (List ℕ)) (done : RunDone)
    (command : Option Command) → HasRun old id words now done mid
    → command ≡ command_of ((state old.limits old.past).modes id) (served_reading words)
    → (let e : Effect = record {
      entry = done.entry;
      id = id;
      command = command;
      expired = done.expired;
      reply = done.reply;
      signalled = done.signalled;
      kind = kind.Run;
    } in IsTurn old (Run id words now) (Ran done.entry) (record mid { effect = Some e }))
run_told old mid id now words done command h ran =
    let told = effect_run old.limits old.past id now words done.entry command done h.entry ran
    h.expired h.reply h.signalled in record {
      limits = h.turn.limits;
      step = subst (λ x. BookStep old.limits old.past (Run id words now) (Ran x) mid.past)
          (sym h.entry) h.turn.step;
      posts = h.turn.posts;
      drops = h.turn.drops;
      effect = told ∙ ap (last_effect old.limits) (sym h.past);
    }

-- words that were read within memory
pub read_is : (read wanted : Result Command WordFault) → IsReading read wanted
    → (read ≡ Err NoMemory → ⊥) → read ≡ wanted
read_is read wanted h some = grind arith
