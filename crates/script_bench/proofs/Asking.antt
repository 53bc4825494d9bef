-- How often threads asked, and how often the cache answered.
use Rattle.std.proofs.Common.{◌≡◌, ◌≤◌, ◌+◌, ◌-◌, ◌*◌, ◌^◌, ℕ, List, [], ◌++◌}
use Rattle.std.proofs.Common.{length, refl, sym, ap, subst, ◌∙◌, arith, append-nil}
use Rattle.std.proofs.Common.{append_assoc, length-append}
use Rattle.std.specs.Prelude.{min, max}
use Rattle.std.proofs.Math.Nat.{add-mul, le-max_left}
use Rattle.std.proofs.lemmas.List.Elements.{All-nil, All-append}
use Rattle.turn_lock.specs.Counts.{times}
use Rattle.turn_lock.specs.History.{IsPrefix}
use Rattle.turn_lock.specs.Seats.{Known, split_seat, joined_seat}
use Rattle.turn_lock.specs.Own.{own_list, with_pasts, turns_of, IsWithin, Within, Grows}
use Rattle.turn_lock.proofs.Growing.{grows_then}
use Rattle.turn_lock.proofs.Owning.{own_joined, pasts_begins, pasts_within, within_append}
use Rattle.turn_lock.proofs.Owning.{within_begins, total-append}
use Rattle.turn_lock.proofs.Turning.{begins_trans}
use Rattle.shared_cache.specs.declared.log.ClientCall.TheVariants as call
use Rattle.shared_cache.specs.declared.log.ClientRefusal.{ClientRefusal}
use Rattle.shared_cache.specs.declared.log.ClientRefusal.TheVariants as refusal
use Rattle.shared_cache.specs.declared.log.LogEntry.{LogEntry}
use Rattle.shared_cache.specs.declared.log.LogEntry.TheVariants as entry
use Rattle.shared_client.specs.Turns.{Place, Turn, setup_at, setup_in, Refuses}
use Rattle.script_bench.specs.Asks.{IsAsk, hit_on, hits_in, Asks}

-- ---- one query

no_turn : {IsOne : List (List ℕ) → Type 0} (most : ℕ) (before after : Place)
    → Grows before after [] → Asks IsOne most 0 before after
no_turn {IsOne = IsOne} most before after g = record {
  turns = [];
  grows = g;
  most = omega arith;
  asks = All-nil (λ t. IsAsk IsOne t.0);
  hits_are = refl;
}

pub asked_none : (query : List (List ℕ)) (r : ClientRefusal) (before after : Place)
    → Refuses (call.Ask query) r before after → Asks (λ q. q ≡ query) 1 0 before after
asked_none query refusal.NoMemory before after h = no_turn 1 before after h.1.grows
asked_none query refusal.Worn before after h = no_turn 1 before after h.1.grows
asked_none query (refusal.Down w) before after h = no_turn 1 before after h.1.grows
asked_none query (refusal.Unexpected w) before after h = no_turn 1 before after h.1.grows
asked_none query (refusal.BadPush w) before after h = no_turn 1 before after h.1.grows
asked_none query (refusal.LogFull n) before after h = no_turn 1 before after h.1.grows
asked_none query (refusal.SetupRefused w) before after h = no_turn 1 before after h.1.grows
asked_none query refusal.NotReady before after h = no_turn 1 before after h.1.grows
asked_none query refusal.Control before after h = no_turn 1 before after h.1.grows
asked_none query (refusal.NoNumber n) before after h = no_turn 1 before after h.1.grows

-- ---- queries one after another

such_ask : (IsOne : List (List ℕ) → Type 0) (query : List (List ℕ)) (e : LogEntry)
    → IsOne query → IsAsk (λ q. q ≡ query) e → IsAsk IsOne e
such_ask IsOne query (entry.Ask q) one is = subst IsOne (sym is) one
such_ask IsOne query (entry.Send ws) one is = absurd is
such_ask IsOne query (entry.Poll n) one is = absurd is
such_ask IsOne query (entry.TakeOut w n) one is = absurd is
such_ask IsOne query (entry.Got w v) one is = absurd is
such_ask IsOne query (entry.End w) one is = absurd is
such_ask IsOne query (entry.Bad w v) one is = absurd is

module _ {IsOne : List (List ℕ) → Type 0} where
  pub asks_then : (query : List (List ℕ)) (times hits more sum : ℕ) (a b c : Place)
      → Asks IsOne times hits a b → IsOne query → Asks (λ q. q ≡ query) 1 more b c
      → sum ≡ min (hits + more) (2 ^ 64 - 1) → Asks IsOne (times + 1) sum a c
  asks_then query times hits more sum a b c h one next sum_is =
      let s = setup_at a in
      let same : setup_at b ≡ s = ap setup_in h.grows.setup in
      let mine : more ≡ min (hits_in s next.turns) (2 ^ 64 - 1)
      = next.hits_are ∙ ap (λ u. min (hits_in u next.turns) (2 ^ 64 - 1)) same in
      let both : hits_in s (next.turns ++ h.turns) ≡ hits_in s next.turns + hits_in s h.turns
      = total-append (λ t. hit_on s t.1 t.0) next.turns h.turns in
      record {
        turns = next.turns ++ h.turns;
        grows = grows_then a b c h.turns next.turns h.grows next.grows;
        most = omega (arith, h.most, next.most, length-append next.turns h.turns);
        asks = All-append (λ t. IsAsk IsOne t.0) next.turns h.turns
            (λ i d lt. such_ask IsOne query _ one (next.asks i d lt)) h.asks;
        hits_are = grind (arith, sum_is, h.hits_are, mine, both);
      }

-- ---- threads beside one another

module _ {U E : Type 0} where
  -- a seat that another was split off, and that other
  pub kept_within : (k l : Known U E) (parts : ℕ) → l ≡ record k { parts = parts } → IsWithin k
      → IsWithin l
  unfolding IsWithin
  kept_within k l parts is w = subst (λ (z : Known U E). Within z.seen z.own) (sym is) w

  pub split_within : (k other : Known U E) (n parts : ℕ) → other ≡ split_seat k n parts
      → IsWithin other
  unfolding IsWithin
  split_within k other n parts is p le = ap (λ (z : Known U E). times p z.own) is

  kept_turns : (k l : Known U E) (parts : ℕ) → l ≡ record k { parts = parts }
      → turns_of l ≡ turns_of k
  unfolding turns_of
  kept_turns k l parts is = ap (λ (z : Known U E). own_list (with_pasts z.seen) z.own) is

  split_none : (k other : Known U E) (n parts : ℕ) → other ≡ split_seat k n parts
      → turns_of other ≡ []
  unfolding turns_of
  split_none k other n parts is = ap (λ (z : Known U E). own_list (with_pasts z.seen) z.own) is

  -- two seats that took turns, joined
  joined : (a b j : Known U E) → j ≡ joined_seat a b → IsPrefix a.seen j.seen
      → IsPrefix b.seen j.seen → IsWithin a → IsWithin b
      → (turns_of j ≡ turns_of a ++ turns_of b) × IsWithin j
  unfolding turns_of IsWithin
  joined a b j is x y u v =
      let own : j.own ≡ a.own ++ b.own = ap (λ (z : Known U E). z.own) is in (
        ap (own_list (with_pasts j.seen)) own
            ∙ own_joined (with_pasts a.seen) (with_pasts b.seen) (with_pasts j.seen) a.own b.own
            (pasts_begins a.seen j.seen x) (pasts_begins b.seen j.seen y)
            (pasts_within a.seen a.own u) (pasts_within b.seen b.own v),
        subst (Within j.seen) (sym own)
            (within_append j.seen a.own b.own (within_begins a.seen j.seen a.own x u)
            (within_begins b.seen j.seen b.own y v)),
      )

-- one thread asks, and so do all others, each so often
pub all_threads : (threads left times mine others : ℕ) → 2 ≤ threads → left ≡ threads - 1
    → mine ≤ times → others ≤ max left 1 * times → mine + others ≤ max threads 1 * times
all_threads threads left times mine others two left_is few fewer =
    let one : max left 1 ≡ left = grind (arith, two, left_is) in
    let all : max threads 1 ≡ 1 + left = grind (arith, two, left_is) in
    let sum : max threads 1 * times ≡ 1 * times + left * times
    = ap (λ n. n * times) all ∙ add-mul 1 left times in
    let rest : max left 1 * times ≡ left * times = ap (λ n. n * times) one in
    omega (arith, few, fewer, sum, rest)

-- `k` was split into `ours` and `mine`; these asked, and were joined
module _ (k ours mine : Place) (number : ℕ)
    (ours_is : ours ≡ record k { parts = k.parts - 1 })
    (mine_is : mine ≡ split_seat k number 1) (parts : 2 ≤ k.parts)
    (a b j : Place) (join_is : j ≡ joined_seat a b)
    (seen_a : IsPrefix a.seen j.seen) (seen_b : IsPrefix b.seen j.seen) where
  both_grow : (xs ys : List Turn) → Grows mine a xs → Grows ours b ys → Grows k j (xs ++ ys)
  both_grow xs ys t o =
      let both = joined a b j join_is seen_a seen_b t.within o.within in
      let tickets : j.tickets ≡ max a.tickets b.tickets = ap (λ (z : Place). z.tickets) join_is in
      let from : mine.tickets ≡ k.tickets = ap (λ (z : Place). z.tickets) mine_is in
      let p_j : j.parts ≡ a.parts + b.parts = ap (λ (z : Place). z.parts) join_is in
      let p_mine : mine.parts ≡ 1 = ap (λ (z : Place). z.parts) mine_is in
      let p_ours : ours.parts ≡ k.parts - 1 = ap (λ (z : Place). z.parts) ours_is in
      record {
        lock = ap (λ (z : Place). z.lock) join_is ∙ t.lock ∙ ap (λ (z : Place). z.lock) mine_is;
        setup = ap (λ (z : Place). z.setup) join_is ∙ t.setup
            ∙ ap (λ (z : Place). z.setup) mine_is;
        parts = omega (arith, p_j, p_mine, p_ours, t.parts, o.parts, parts);
        tickets = omega (arith, tickets, from, t.tickets, le-max_left a.tickets b.tickets);
        seen = begins_trans k.seen a.seen j.seen
            (subst (λ (z : Place). IsPrefix z.seen a.seen) mine_is t.seen) seen_a;
        within = both.1;
        own = both.0
            ∙ ap (λ z. z ++ turns_of b) (t.own ∙ ap (λ z. xs ++ z) (split_none k mine number 1
            mine_is) ∙ append-nil xs)
            ∙ ap (λ z. xs ++ z) (o.own ∙ ap (λ z. ys ++ z) (kept_turns k ours (k.parts - 1)
            ours_is)) ∙ sym (append_assoc xs ys (turns_of k));
      }

  pub asks_joined : {IsOne : List (List ℕ) → Type 0} (threads left times x y sum : ℕ)
      → 2 ≤ threads → left ≡ threads - 1 → Asks IsOne times x mine a
      → Asks IsOne (max left 1 * times) y ours b
      → sum ≡ min (x + y) (2 ^ 64 - 1) → Asks IsOne (max threads 1 * times) sum k j
  asks_joined {IsOne = IsOne} threads left times x y sum two left_is t o sum_is =
      let s = setup_at k in
      let s_mine : setup_at mine ≡ s = ap (λ (z : Place). setup_at z) mine_is in
      let s_ours : setup_at ours ≡ s = ap (λ (z : Place). setup_at z) ours_is in
      let x_is : x ≡ min (hits_in s t.turns) (2 ^ 64 - 1)
      = t.hits_are ∙ ap (λ u. min (hits_in u t.turns) (2 ^ 64 - 1)) s_mine in
      let y_is : y ≡ min (hits_in s o.turns) (2 ^ 64 - 1)
      = o.hits_are ∙ ap (λ u. min (hits_in u o.turns) (2 ^ 64 - 1)) s_ours in
      let both : hits_in s (t.turns ++ o.turns) ≡ hits_in s t.turns + hits_in s o.turns
      = total-append (λ e. hit_on s e.1 e.0) t.turns o.turns in
      let few = all_threads threads left times (length t.turns) (length o.turns) two left_is
      t.most o.most in
      record {
        turns = t.turns ++ o.turns;
        grows = both_grow t.turns o.turns t.grows o.grows;
        most = omega (arith, few, length-append t.turns o.turns);
        asks = All-append (λ e. IsAsk IsOne e.0) t.turns o.turns t.asks o.asks;
        hits_are = grind (arith, sum_is, x_is, y_is, both);
      }
