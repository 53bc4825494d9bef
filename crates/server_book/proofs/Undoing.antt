-- A Run that memory broke off is taken back.
use Rattle.std.proofs.Common.{◌≡◌, ℕ, List, [], length, ap, sym, ◌∙◌, arith, Option, None, Some}
use Rattle.resp_value.specs.declared.value.Value.{Value}
use Rattle.track_table.specs.declared.table.Held.{Held}
use Rattle.track_table.specs.Table.{without_keys}
use Rattle.serial_model.specs.Actions.{Sending, to_one}
use Rattle.serial_model.specs.Tracking.{Invalidation}
use Rattle.serial_model.proofs.KeptTables.{table_without_keys}
use Rattle.serial_model.proofs.TableSize.{without_keys_within}
use Rattle.server_book.specs.Connections.{ConnectionsState, IsId, IsOpen, connection_at, is_open}
use Rattle.server_book.specs.RunSendings.{reply_sent}
use Rattle.server_book.specs.Sendings.{before_posts, unpassed, ways, with_told}
use Rattle.server_book.specs.declared.plan.Plan.{Plan}
use Rattle.server_book.specs.Stores.{IsHeld}
use Rattle.server_book.proofs.Routing.{before_told, ways_there}
use Rattle.server_book.proofs.Sendings.{AreTo, before_sendings, length_sendings, sent_at}

-- the table is one where keys leave it
pub held_left : (limit : ℕ) (keys : List (List ℕ)) (rows : List Held) → IsHeld limit rows
    → IsHeld limit (without_keys keys rows)
held_left limit keys rows h = grind (arith, table_without_keys, without_keys_within)

-- a reply that was sent is taken back
pub reply_back : (n id : ℕ) (st next : ConnectionsState) (plan : Plan) → IsOpen st.items id
    → next ≡ reply_sent n id plan st
    → before_posts next.posts next.items ≡ before_posts st.posts st.items
reply_back n id st next plan on sent =
    ap (λ (s : ConnectionsState). before_posts s.posts s.items) sent
    ∙ before_sendings n (to_one id plan.proto plan.reply) st (one_there plan.reply)
  where
    one_there : (x : Option Value) → AreTo st.items (to_one id plan.proto x)
    one_there None = tt
    one_there (Some value) = (on.0, tt)

-- what was sent is taken back, and who was lost is forgotten
pub back_to : (old now : ConnectionsState)
    → before_posts now.posts now.items ≡ before_posts old.posts old.items → old.posts ≡ []
    → old.lost ≡ [] → old.drops ≡ []
    → (let back : ConnectionsState = record {
      items = before_posts now.posts now.items;
      posts = [];
      lost = [];
      drops = [];
    } in back ≡ old)
back_to old now back none unlost undropped =
    ap (λ x. record { items = x; posts = []; lost = []; drops = [] })
    (back ∙ ap (λ ps. before_posts ps old.items) none)
    ∙ ap (λ x. record { items = old.items; posts = x; lost = []; drops = [] }) (sym none)
    ∙ ap (λ x. record { items = old.items; posts = old.posts; lost = x; drops = [] }) (sym unlost)
    ∙ ap (λ x. record { items = old.items; posts = old.posts; lost = old.lost; drops = x })
    (sym undropped)

-- those were told whom the keys that left concern
module _ (n id : ℕ) (old now : ConnectionsState) (group : List Invalidation)
    (on : IsOpen old.items id) (none : old.posts ≡ [])
    (told : now ≡ with_told n (unpassed None group) old) where
  abbrev sent : List (ℕ × Sending)
  sent = ways old.items (unpassed None group)

  pub length_told : length now.items ≡ length old.items
  length_told =
      ap (λ (s : ConnectionsState). length s.items) told ∙ length_sendings n sent old

  on_there : IsId now.items id
  on_there = (on.0.0, let le = on.0.1 in omega (arith, le, length_told))

  pub on_told : IsOpen now.items id
  on_told = (
    on_there,
    ap (λ (s : ConnectionsState). is_open (connection_at s.items id)) told
        ∙ ap is_open
        (sent_at n id sent old on.0 (ways_there old.items (unpassed None group)))
        ∙ on.1,
  )

  pub told_none : before_posts now.posts now.items ≡ old.items
  told_none =
      ap (λ (s : ConnectionsState). before_posts s.posts s.items) told
      ∙ before_told n (unpassed None group) old
      ∙ ap (λ ps. before_posts ps old.items) none
