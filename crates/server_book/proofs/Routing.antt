-- The way of what connections are told: where modes are the same it is the same, it leads to those
-- that are open, and what was sent before leaves it.
use Rattle.std.proofs.Common.{◌≡◌, ◌∙◌, ◌<◌, ℕ, List, [], ◌∷◌, ◌++◌, Bool, true, false, cond}
use Rattle.std.proofs.Common.{◌+◌, length, take, slice_index_or, eqb-true}
use Rattle.std.proofs.Common.{refl, sym, ap, arith, Option, Some, None, append-nil, append_assoc}
use Prim.Native.Nat.{zero, suc}
use Rattle.std.specs.Prelude.{◌==◌, ◌&&◌, ◌||◌, is_some, not, nat_le, nat_lt, option_map}
use Rattle.std.specs.List.{list_any}
use Rattle.std.specs.Option.{option_map_or}
use Rattle.std.proofs.lemmas.Bool.Decides.{nat_tests}
use Rattle.resp_value.specs.declared.value.Proto.{Proto}
use Rattle.resp_value.specs.declared.value.Proto.TheVariants.{Two, Three}
use Rattle.resp_value.specs.declared.value.Value.{Value}
use Rattle.redirect.specs.declared.routes.Route.{Route}
use Rattle.redirect.specs.declared.routes.Route.TheVariants as route
use Rattle.redirect.specs.Messages.{message_of, notice_of, push_of}
use Rattle.redirect.specs.Routes.{breaks, direct_route, lost_route, redirected_route}
use Rattle.redirect.specs.Routes.{route_of, subscriber_route, tracking_route}
use Rattle.track_modes.specs.declared.tracking.Tracking.{Tracking}
use Rattle.track_modes.specs.declared.tracking.Tracking.TheVariants.{Off, On}
use Rattle.track_modes.specs.ModeState.{ModeState, new_mode, peer_of, redirect_of}
use Rattle.serial_model.specs.declared.standing.Standing.{Standing}
use Rattle.serial_model.specs.Actions.{Sending, Message, are_lost, carried, peer_at, route_at}
use Rattle.serial_model.specs.Actions.{routed, target_at, to_one, way}
use Rattle.serial_model.specs.Each.{AllIn, AllTo}
use Rattle.serial_model.specs.State.{is_live as is_live_standing}
use Rattle.serial_model.specs.Tracking.{Invalidation, has_id, told_to}
use Rattle.serial_model.proofs.Each.{in_append}
use Rattle.server_book.specs.Places.{Connection}
use Rattle.server_book.specs.Connections.{ConnectionsState, IsId, IsOpen, connection_at, is_live}
use Rattle.server_book.specs.Connections.{is_there}
use Rattle.server_book.specs.Sendings.{IsOpenRoute, before_posts, is_lost, lost_ids, modes_in}
use Rattle.server_book.specs.Sendings.{passes, unpassed, ways, with_sending, with_sendings}
use Rattle.server_book.specs.Sendings.{with_told}
use Rattle.server_book.proofs.Sendings.{AreTo, before_sendings, is_there_id, length_sendings}
use Rattle.server_book.proofs.Sendings.{sendings_append, sent_at}

-- ---- by modes that are the same where it matters

pub all_told : {P : ℕ → Type 0} → ((c : ℕ) → P c) → (told : List Invalidation) → AllTo P told
all_told {P} h [] = tt
all_told {P} h (i ∷ told) = (h i.to, all_told {P = P} h told)

module _ (f g : ℕ → ModeState) (on off : ℕ → Bool) (same_on : (c : ℕ) → on c ≡ off c)
    (same : (c : ℕ) → on c ≡ true → f c ≡ g c) where
  peer_same : (x : Option ℕ) → peer_at f on x ≡ peer_at g off x
  peer_same None = refl
  peer_same (Some r) =
      elim (on r) as (λ b. on r ≡ b
      → cond b (Some (peer_of (f r))) None ≡ cond b (Some (peer_of (g r))) None) [
        | true ↦ λ e. ap (λ m. Some (peer_of m)) (same r e)
        | false ↦ λ e. refl
      ] refl
      ∙ ap (λ b. cond b (Some (peer_of (g r))) None) (same_on r)

  way_same : (i : Invalidation) → f i.to ≡ g i.to → way f on i ≡ way g off i
  way_same i e =
      ap (λ (m : ModeState). carried (route_of i.to (peer_at f on (redirect_of m.tracking)) m)
      (redirect_of m.tracking) i.keys) e
      ∙ ap (λ p. carried (route_of i.to p (g i.to)) (redirect_of (g i.to).tracking) i.keys)
      (peer_same (redirect_of (g i.to).tracking))

  pub routed_same : (told : List Invalidation) → AllTo (λ c. f c ≡ g c) told
      → routed f on told ≡ routed g off told
  routed_same [] h = refl
  routed_same (i ∷ told) h =
      ap (λ x. x ++ routed f on told) (way_same i h.0)
      ∙ ap (λ x. way g off i ++ x) (routed_same told h.1)

  breaks_same : (c : ℕ) → f c ≡ g c
      → breaks (f c).tracking (target_at f on c) ≡ breaks (g c).tracking (target_at g off c)
  breaks_same c e =
      ap (λ (m : ModeState). breaks m.tracking (peer_at f on (redirect_of m.tracking))) e
      ∙ ap (breaks (g c).tracking) (peer_same (redirect_of (g c).tracking))

  to_nobody : (c : ℕ) (i : Invalidation) (b : Bool) → (i.to == c) ≡ b → f i.to ≡ g i.to
      → (b && breaks (f c).tracking (target_at f on c))
      ≡ (b && breaks (g c).tracking (target_at g off c))
  to_nobody c i true is e = grind (arith, nat_tests, breaks_same)
  to_nobody c i false is e = refl

  any_split : (a b x : Bool) → ((a || b) && x) ≡ ((a && x) || (b && x))
  any_split a b x = grind arith

  pub lost_same : (told : List Invalidation) → AllTo (λ c. f c ≡ g c) told → (c : ℕ)
      → are_lost f on told c ≡ are_lost g off told c
  lost_same [] h c = refl
  lost_same (i ∷ told) h c =
      let x = breaks (f c).tracking (target_at f on c) in
      let y = breaks (g c).tracking (target_at g off c) in
      any_split (i.to == c) (list_any (λ j. j.to == c) told) x
      ∙ ap (λ b. b || (list_any (λ j. j.to == c) told && x)) (to_nobody c i (i.to == c) refl h.0)
      ∙ ap (λ b. ((i.to == c) && y) || b) (lost_same told h.1 c)
      ∙ sym (any_split (i.to == c) (list_any (λ j. j.to == c) told) y)

-- ---- a way leads to one that is open

pub live_open : (cs : List Connection) (c : ℕ) → is_live cs c ≡ true → IsOpen cs c
live_open cs c h = ((grind (arith, nat_tests), grind (arith, nat_tests)), grind arith)

module _ (cs : List Connection) where
  direct_open : (c : ℕ) (p : Proto) → is_live cs c ≡ true → IsOpenRoute cs (direct_route c p)
  direct_open c Two on = tt
  direct_open c Three on = live_open cs c on

  subscriber_open : (r : ℕ) (p : Proto) (b : Bool) → is_live cs r ≡ true
      → IsOpenRoute cs (subscriber_route r p b)
  subscriber_open r Three b on = live_open cs r on
  subscriber_open r Two true on = live_open cs r on
  subscriber_open r Two false on = tt

  lost_open : (c : ℕ) (p : Proto) → is_live cs c ≡ true → IsOpenRoute cs (lost_route c p)
  lost_open c Two on = tt
  lost_open c Three on = live_open cs c on

  redirected_open : (c : ℕ) (p : Proto) (x : Option ℕ) → is_live cs c ≡ true
      → IsOpenRoute cs (redirected_route x c p (peer_at (modes_in cs) (is_live cs) x))
  redirected_open c p None on = direct_open c p on
  redirected_open c p (Some r) on =
      elim (is_live cs r) as (λ b. is_live cs r ≡ b → IsOpenRoute cs
      (redirected_route (Some r) c p (cond b (Some (peer_of (modes_in cs r))) None))) [
        | true ↦ λ e. subscriber_open r (modes_in cs r).proto (modes_in cs r).subscribed e
        | false ↦ λ e. lost_open c p on
      ] refl

  tracking_open : (c : ℕ) (p : Proto) (t : Tracking) → is_live cs c ≡ true
      → IsOpenRoute cs
      (tracking_route t c p (peer_at (modes_in cs) (is_live cs) (redirect_of t)))
  tracking_open c p Off on = tt
  tracking_open c p (On s) on = redirected_open c p s.redirect on

  pub route_open : (c : ℕ) → IsOpenRoute cs (route_at (modes_in cs) (is_live cs) c)
  route_open c =
      let own = (connection_at cs c).mode in
      elim (is_live cs c) as (λ b. is_live cs c ≡ b → (let m = cond b own new_mode in
      IsOpenRoute cs
      (route_of c (peer_at (modes_in cs) (is_live cs) (redirect_of m.tracking)) m))) [
        | true ↦ λ e. tracking_open c own.proto own.tracking e
        | false ↦ λ e. tt
      ] refl

  carried_there : (r : Route) (target : Option ℕ) (keys : Option (List (List ℕ)))
      → IsOpenRoute cs r → AreTo cs (carried r target keys)
  carried_there (route.Push to) target keys h = (h.0, tt)
  carried_there (route.Message to) target keys h = (h.0, tt)
  carried_there (route.BrokenNotice to) None keys h = tt
  carried_there (route.BrokenNotice to) (Some r) keys h = (h.0, tt)
  carried_there route.Nowhere target keys h = tt

  pub ways_there : (told : List Invalidation) → AreTo cs (ways cs told)
  ways_there [] = tt
  ways_there (i ∷ told) =
      in_append (λ (s : ℕ × Sending). IsId cs s.0) (way (modes_in cs) (is_live cs) i)
      (ways cs told)
      (carried_there (route_at (modes_in cs) (is_live cs) i.to)
      (redirect_of (modes_in cs i.to).tracking) i.keys (route_open i.to)) (ways_there told)

-- what goes by each way
module _ (st : ConnectionsState) (id : ℕ) (keys : Option (List (List ℕ))) where
  abbrev modes : ℕ → ModeState
  modes = modes_in st.items

  abbrev at : Route
  at = route_at modes (is_live st.items) id

  abbrev goes : List (ℕ × Sending)
  goes = way modes (is_live st.items) (record { to = id; keys = keys })

  carried_by : (r : Route) → r ≡ at → carried r (redirect_of (modes id).tracking) keys ≡ goes
  carried_by r e = ap (λ x. carried x (redirect_of (modes id).tracking) keys) e

  pub by_push : (n to : ℕ) (push : Value) (next : ConnectionsState) → push ≡ push_of keys
      → route.Push to ≡ at → next ≡ with_sendings n ((to, Message Three push) ∷ []) st
      → next ≡ with_sendings n goes st
  by_push n to push next is e sent =
      sent ∙ ap (λ v. with_sendings n ((to, Message Three v) ∷ []) st) is
      ∙ ap (λ ss. with_sendings n ss st) (carried_by (route.Push to) e)

  pub by_message : (n to : ℕ) (next : ConnectionsState) → route.Message to ≡ at
      → next ≡ with_sendings n (to_one to Two (Some (message_of keys))) st
      → next ≡ with_sendings n goes st
  by_message n to next e sent =
      sent ∙ ap (λ ss. with_sendings n ss st) (carried_by (route.Message to) e)

  pub by_notice : (n to : ℕ) (next : ConnectionsState) → route.BrokenNotice to ≡ at
      → next ≡ with_sendings n
      (to_one to Three (option_map notice_of (redirect_of (modes id).tracking))) st
      → next ≡ with_sendings n goes st
  by_notice n to next e sent =
      sent ∙ ap (λ ss. with_sendings n ss st) (carried_by (route.BrokenNotice to) e)

  pub by_none : (n : ℕ) → route.Nowhere ≡ at → st ≡ with_sendings n goes st
  by_none n e = ap (λ ss. with_sendings n ss st) (carried_by route.Nowhere e)

-- ---- whether the target of a redirection has ended

lost_where : (modes : ℕ → ModeState) (on : ℕ → Bool) (t : Tracking)
    → breaks t (peer_at modes on (redirect_of t)) ≡ option_map_or (λ r. not (on r)) (redirect_of t)
    false
lost_where modes on Off = refl
lost_where modes on (On s) = by s.redirect
  where
    by : (x : Option ℕ) → (is_some x && not (is_some (peer_at modes on x)))
        ≡ option_map_or (λ r. not (on r)) x false
    by None = refl
    by (Some r) = elim (on r) as (λ b.
        not (is_some (cond b (Some (peer_of (modes r))) None)) ≡ not b) [
          | true ↦ refl
          | false ↦ refl
        ]

pub lost_is : (cs : List Connection) (id : ℕ) → is_lost cs id
    ≡ option_map_or (λ r. not (is_live cs r)) (redirect_of (modes_in cs id).tracking) false
lost_is cs id = lost_where (modes_in cs) (is_live cs) (modes_in cs id).tracking

-- one that was lost is live
pub lost_live : (cs : List Connection) (id : ℕ) → is_lost cs id ≡ true → is_live cs id ≡ true
lost_live cs id =
    let own = (connection_at cs id).mode in
    elim (is_live cs id) as (λ b. (let t = (cond b own new_mode).tracking in
    breaks t (peer_at (modes_in cs) (is_live cs) (redirect_of t)) ≡ true → b ≡ true)) [
      | true ↦ λ h. refl
      | false ↦ λ h. absurd (let no : ⊥ = cc in no)
    ]

pub lost_append : (cs : List Connection) (xs ys : List Invalidation)
    → lost_ids cs (xs ++ ys) ≡ lost_ids cs xs ++ lost_ids cs ys
lost_append cs [] ys = refl
lost_append cs (x ∷ xs) ys = grind (arith, lost_append cs xs ys)

pub lost_among : (cs : List Connection) (told : List Invalidation) (c : ℕ)
    → has_id c (lost_ids cs told) ≡ are_lost (modes_in cs) (is_live cs) told c
lost_among cs [] c = refl
lost_among cs (i ∷ told) c =
    elim (is_lost cs i.to) as (λ b. is_lost cs i.to ≡ b
    → has_id c (cond b (i.to ∷ lost_ids cs told) (lost_ids cs told))
    ≡ (((i.to == c) || list_any (λ j. j.to == c) told) && is_lost cs c)) [
      | true ↦ λ e. grind (arith, nat_tests, lost_among cs told c)
      | false ↦ λ e. grind (arith, nat_tests, lost_among cs told c)
    ] refl

pub lost_there : (cs : List Connection) (told : List Invalidation)
    → AllIn (IsId cs) (lost_ids cs told)
lost_there cs [] = tt
lost_there cs (i ∷ told) =
    elim (is_lost cs i.to) as (λ b. is_lost cs i.to ≡ b
    → AllIn (IsId cs) (cond b (i.to ∷ lost_ids cs told) (lost_ids cs told))) [
      | true ↦ λ e. ((live_open cs i.to (lost_live cs i.to e)).0, lost_there cs told)
      | false ↦ λ e. lost_there cs told
    ] refl

-- ---- what was sent before leaves who is told how

-- connections that may differ in what they have not taken
pub record AreSame (cs ds : List Connection) : Type 0 where
  pub on : (c : ℕ) → is_live ds c ≡ is_live cs c
  pub mode : (c : ℕ) → modes_in ds c ≡ modes_in cs c

abbrev Like : Bool → ModeState → Standing → Bool → ModeState → Standing → Type 0
Like a m x b n y =
    ((a && is_live_standing x) ≡ (b && is_live_standing y))
    × (cond (a && is_live_standing x) m new_mode ≡ cond (b && is_live_standing y) n new_mode)

parts_same : (a b : Bool) (m n : ModeState) (x y : Standing) → a ≡ b
    → (a ≡ true → (m ≡ n) × (x ≡ y)) → Like a m x b n y
parts_same true b m n x y e h =
    let p = h refl in (
      ap (λ z. z && is_live_standing x) e ∙ ap (λ z. b && is_live_standing z) p.1,
      ap (λ z. cond (z && is_live_standing x) m new_mode) e
          ∙ ap (λ z. cond (b && is_live_standing z) m new_mode) p.1
          ∙ ap (λ z. cond (b && is_live_standing y) z new_mode) p.0,
    )
parts_same false b m n x y e h =
    (ap (λ z. z && is_live_standing y) e, ap (λ z. cond (z && is_live_standing y) n new_mode) e)

module _ (cs ds : List Connection) (same : AreSame cs ds) where
  pub ways_same : (told : List Invalidation) → ways ds told ≡ ways cs told
  ways_same told =
      routed_same (modes_in ds) (modes_in cs) (is_live ds) (is_live cs) same.on
      (λ c on. same.mode c) told
      (all_told {P = λ c. modes_in ds c ≡ modes_in cs c} same.mode told)

  one_lost : (c : ℕ) → is_lost ds c ≡ is_lost cs c
  one_lost c =
      breaks_same (modes_in ds) (modes_in cs) (is_live ds) (is_live cs) same.on
      (λ c on. same.mode c) c (same.mode c)

  pub ids_lost : (told : List Invalidation) → lost_ids ds told ≡ lost_ids cs told
  ids_lost [] = refl
  ids_lost (i ∷ told) =
      ap (λ b. cond b (i.to ∷ lost_ids ds told) (lost_ids ds told)) (one_lost i.to)
      ∙ ap (λ x. cond (is_lost cs i.to) (i.to ∷ x) x) (ids_lost told)

-- two lists of as many, of equal modes and standings where one is there
pub same_where : (cs ds : List Connection) → ((c : ℕ) → is_there ds c ≡ is_there cs c)
    → ((c : ℕ) → IsId cs c → ((connection_at ds c).mode ≡ (connection_at cs c).mode)
    × ((connection_at ds c).standing ≡ (connection_at cs c).standing))
    → AreSame cs ds
same_where cs ds there parts =
    let like : (c : ℕ) → Like (is_there ds c) (connection_at ds c).mode
    (connection_at ds c).standing (is_there cs c) (connection_at cs c).mode
    (connection_at cs c).standing =
    λ c. parts_same (is_there ds c) (is_there cs c) (connection_at ds c).mode
    (connection_at cs c).mode (connection_at ds c).standing (connection_at cs c).standing (there c)
    (λ e. parts c (is_there_id cs c (sym (there c) ∙ e))) in
    record { on = λ c. (like c).0; mode = λ c. (like c).1 }

pub sendings_same : (n : ℕ) (ss : List (ℕ × Sending)) (old : ConnectionsState)
    → AreTo old.items ss → AreSame old.items (with_sendings n ss old).items
sendings_same n ss old to =
    same_where old.items (with_sendings n ss old).items
    (λ c. ap (λ k. nat_lt 0 c && nat_le c k) (length_sendings n ss old))
    (λ c on. let at = sent_at n c ss old on to in (
      ap (λ (c : Connection). c.mode) at,
      ap (λ (c : Connection). c.standing) at,
    ))

-- ---- telling some, and then others

pub sendings_lost : (n : ℕ) (ss : List (ℕ × Sending)) (old : ConnectionsState) (lost : List ℕ)
    → with_sendings n ss (record old { lost = lost })
    ≡ record (with_sendings n ss old) { lost = lost }
sendings_lost n [] old lost = refl
sendings_lost n (s ∷ ss) old lost = sendings_lost n ss (with_sending n s old) lost

routed_append : (modes : ℕ → ModeState) (on : ℕ → Bool) (xs ys : List Invalidation)
    → routed modes on (xs ++ ys) ≡ routed modes on xs ++ routed modes on ys
routed_append modes on [] ys = refl
routed_append modes on (x ∷ xs) ys =
    ap (λ z. way modes on x ++ z) (routed_append modes on xs ys)
    ∙ sym (append_assoc (way modes on x) (routed modes on xs) (routed modes on ys))

abbrev sent_as : ℕ → List (ℕ × Sending) → List ℕ → ConnectionsState → ConnectionsState
sent_as n ss lost st = record (with_sendings n ss st) { lost = lost }

pub told_append : (n : ℕ) (xs ys : List Invalidation) (st : ConnectionsState)
    → with_told n (xs ++ ys) st ≡ with_told n ys (with_told n xs st)
told_append n xs ys st =
    let cs = st.items in
    let mid = with_told n xs st in
    let same = sendings_same n (ways cs xs) st (ways_there cs xs) in
    let lost = (st.lost ++ lost_ids cs xs) ++ lost_ids cs ys in
    ap (λ ss. sent_as n ss (st.lost ++ lost_ids cs (xs ++ ys)) st)
    (routed_append (modes_in cs) (is_live cs) xs ys)
    ∙ ap (λ z. sent_as n (ways cs xs ++ ways cs ys) z st)
    (ap (λ z. st.lost ++ z) (lost_append cs xs ys)
    ∙ sym (append_assoc st.lost (lost_ids cs xs) (lost_ids cs ys)))
    ∙ ap (λ (s : ConnectionsState). record s { lost = lost })
    (sendings_append n (ways cs xs) (ways cs ys) st)
    ∙ ap (λ (s : ConnectionsState). record s { lost = lost })
    (sym (sendings_lost n (ways cs ys) (with_sendings n (ways cs xs) st)
    (st.lost ++ lost_ids cs xs)))
    ∙ ap (λ z. sent_as n (ways cs ys) ((st.lost ++ lost_ids cs xs) ++ z) mid)
    (sym (ids_lost cs mid.items same ys))
    ∙ ap (λ z. sent_as n z (mid.lost ++ lost_ids mid.items ys) mid)
    (sym (ways_same cs mid.items same ys))

pub told_nobody : (n : ℕ) (st : ConnectionsState) → with_told n [] st ≡ st
told_nobody n st = ap (λ z. record st { lost = z }) (append-nil st.lost)

pub before_told : (n : ℕ) (told : List Invalidation) (st : ConnectionsState)
    → (let new = with_told n told st in
    before_posts new.posts new.items ≡ before_posts st.posts st.items)
before_told n told st = before_sendings n (ways st.items told) st (ways_there st.items told)

-- ---- those who are not passed over

pub unpassed_append : (but : Option ℕ) (xs ys : List Invalidation)
    → unpassed but (xs ++ ys) ≡ unpassed but xs ++ unpassed but ys
unpassed_append but [] ys = refl
unpassed_append but (x ∷ xs) ys = grind (arith, unpassed_append but xs ys)

pub unpassed_none : (told : List Invalidation) → unpassed None told ≡ told
unpassed_none [] = refl
unpassed_none (i ∷ told) = ap (λ x. i ∷ x) (unpassed_none told)

-- more are told behind others
pub told_behind : (n : ℕ) (but : Option ℕ) (old now next : ConnectionsState)
    (told more : List Invalidation)
    → now ≡ with_told n (unpassed but told) old → next ≡ with_told n (unpassed but more) now
    → next ≡ with_told n (unpassed but (told ++ more)) old
told_behind n but old now next told more so_far sent =
    sent ∙ ap (with_told n (unpassed but more)) so_far
    ∙ sym (told_append n (unpassed but told) (unpassed but more) old)
    ∙ ap (λ x. with_told n x old) (sym (unpassed_append but told more))

-- ---- one after another

told_to_next : (keys : Option (List (List ℕ))) (ids : List ℕ) (k : ℕ) → k < length ids
    → told_to keys (take (k + 1) ids)
    ≡ told_to keys (take k ids) ++ record { to = slice_index_or ids k 0; keys = keys } ∷ []
told_to_next keys [] k lt = absurd (let no : ⊥ = omega arith in no)
told_to_next keys (id ∷ ids) zero lt = refl
told_to_next keys (id ∷ ids) (suc k) lt =
    grind (arith, slice_index_or, told_to_next keys ids k (omega arith))

pub one_more : (n : ℕ) (but : Option ℕ) (keys : Option (List (List ℕ))) (ids : List ℕ) (k : ℕ)
    (old now next : ConnectionsState) → k < length ids
    → now ≡ with_told n (unpassed but (told_to keys (take k ids))) old
    → next ≡ with_told n (unpassed but (told_to keys (slice_index_or ids k 0 ∷ []))) now
    → next ≡ with_told n (unpassed but (told_to keys (take (k + 1) ids))) old
one_more n but keys ids k old now next lt so_far sent =
    told_behind n but old now next (told_to keys (take k ids))
    (told_to keys (slice_index_or ids k 0 ∷ [])) so_far sent
    ∙ ap (λ x. with_told n (unpassed but x) old) (sym (told_to_next keys ids k lt))

-- one that is passed over, and one that is not
module _ (n : ℕ) (but : Option ℕ) (keys : Option (List (List ℕ))) (id : ℕ)
    (old : ConnectionsState) where
  abbrev i : Invalidation
  i = record { to = id; keys = keys }

  pub told_passed : passes but id ≡ true → old ≡ with_told n (unpassed but (i ∷ [])) old
  told_passed on =
      sym (told_nobody n old) ∙ ap (λ b. with_told n (cond (not b) (i ∷ []) []) old) (sym on)

  pub told_unpassed : (next : ConnectionsState) → passes but id ≡ false
      → next ≡ with_told n (i ∷ []) old → next ≡ with_told n (unpassed but (i ∷ [])) old
  told_unpassed next off sent =
      sent ∙ ap (λ b. with_told n (cond (not b) (i ∷ []) []) old) (sym off)

-- nobody is told
pub told_empty : (n : ℕ) (but : Option ℕ) (keys : Option (List (List ℕ))) (ids : List ℕ)
    (st : ConnectionsState) → (length ids == 0) ≡ true
    → st ≡ with_told n (unpassed but (told_to keys ids)) st
told_empty n but keys [] st e = sym (told_nobody n st)
told_empty n but keys (id ∷ ids) st e =
    absurd (let no : ⊥ = omega (arith, eqb-true (length (id ∷ ids)) 0 e) in no)
