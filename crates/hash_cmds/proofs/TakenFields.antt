-- Fields that were taken out under a key lead back.
use Rattle.std.proofs.Common.{◌≡◌, ◌∙◌, refl, sym, ap, ℕ, Bool, true, false, cond, List, []}
use Rattle.std.proofs.Common.{Option, Some, None, Result, Ok, Err, IfOk}
use Rattle.std.specs.Option.{option_map, option_map_or}
use Rattle.std.specs.Str.{bytes_eq}
use Rattle.std.specs.Cmp.Lexicographic.{nat_list_cmp_total, texts_ties}
use Rattle.std.specs.FinMap.{get, insert, remove, get-insert, get-remove, same_map}
use Rattle.std.specs.FinMap.{slice_cmp-IsAntisymmetric, nat_cmp-IsAntisymmetric}
use Rattle.std.proofs.lemmas.Slice.Eq.{bytes_eq-Decides}
use Rattle.command_words.specs.Space.{Content, Text, Fields, Held, Space, content_at}
use Rattle.keyspace.proofs.Changes.{with_content-same}
use Rattle.keyspace.specs.Lending.{with_content}
use Rattle.keyspace.specs.Plain.{content_of}
use Rattle.keyspace.specs.declared.space.Content as code
use Rattle.keyspace.specs.Places.{Placed, with_placed, with_placed_of}
use Rattle.hash_cmds.specs.Changed.{held_back, is_empty_hash}

pub if_ok : {A E : Type 0} {P Q : A → Type 0} → ((a : A) → P a → Q a) → (r : Result A E)
    → IfOk r P → IfOk r Q
if_ok f (Ok a) p = f a p
if_ok f (Err e) p = p

-- a content that stays
pub same_content : (key : List ℕ) (s : Space) (had new : code.Content)
    → content_at key s ≡ Some (content_of had) → new ≡ had → with_content key (content_of new) s ≡ s
same_content key s had new at is =
    ap (λ c. with_content key (content_of c) s) is ∙ with_content-same key s (content_of had) at

at_insert : (s : Space) (k : List ℕ) (held : Held) (q : List ℕ)
    → get (insert s k held) q ≡ cond (bytes_eq q k) (Some held) (get s q)
at_insert s k held q =
    get-insert nat_list_cmp_total s k held q
    ∙ ap (λ b. cond b (Some held) (get s q)) (sym (texts_ties q k))

at_remove : (s : Space) (k q : List ℕ)
    → get (remove s k) q ≡ cond (bytes_eq q k) None (get s q)
at_remove s k q =
    get-remove nat_list_cmp_total s k q
    ∙ ap (λ b. cond b None (get s q)) (sym (texts_ties q k))

alike : (s t : Space) → ((q : List ℕ) → get s q ≡ get t q) → s ≡ t
alike s t all =
    same_map nat_list_cmp_total (slice_cmp-IsAntisymmetric nat_cmp-IsAntisymmetric) s t all

-- what a key holds is put over another one of it
put_over : (key : List ℕ) (s t : Space) (h : Held) → get s key ≡ Some h
    → ((q : List ℕ) → bytes_eq q key ≡ false → get t q ≡ get s q) → insert t key h ≡ s
put_over key s t h at others =
    alike _ _ (λ q. at_insert t key h q ∙ by q (bytes_eq q key) refl)
  where
    by : (q : List ℕ) (b : Bool) → bytes_eq q key ≡ b → cond b (Some h) (get t q) ≡ get s q
    by q true e = sym at ∙ ap (get s) (sym ((bytes_eq-Decides q key).0 e))
    by q false e = others q e

-- what was taken out is there again
taken_again : (key : List ℕ) (s : Space) (h : Held) → get s key ≡ Some h
    → insert (remove s key) key h ≡ s
taken_again key s h at =
    put_over key s (remove s key) h at
    (λ q e. at_remove s key q ∙ ap (λ b. cond b None (get s q)) e)

-- a hash without fields that was taken out
pub empty_again : (key : List ℕ) (s t : Space) (r : Option Held) → r ≡ get s key
    → is_empty_hash (content_at key s) ≡ true → t ≡ remove s key → held_back key r t ≡ s
empty_again key s t None at is gone =
    absurd (let no : false ≡ true =
    ap (λ h. is_empty_hash (option_map (λ x. x.content) h)) at ∙ is in cc)
empty_again key s t (Some h) at is gone =
    ap (λ m. insert m key h) gone ∙ taken_again key s h (sym at)

with_none : (c : Content) → with_placed [] c ≡ c
with_none (Text value) = refl
with_none (Fields fields) = refl

-- no fields that go back
pub nothing_back : (key : List ℕ) (s : Space) → with_placed_of key [] s ≡ s
nothing_back key s = by (get s key) refl
  where
    by : (r : Option Held) → get s key ≡ r
        → option_map_or (λ held. insert s key (record held {
          content = with_placed [] held.content;
        })) r s ≡ s
    by None at = refl
    by (Some h) at =
        ap (λ c. insert s key (record h { content = c })) (with_none h.content)
        ∙ put_over key s s h at (λ q e. refl)

-- fields that were taken out of the content of a key
pub fields_back : (key : List ℕ) (ps : List Placed) (s t : Space) (c new : Content)
    → content_at key s ≡ Some c → t ≡ with_content key new s → with_placed ps new ≡ c
    → with_placed_of key ps t ≡ s
fields_back key ps s t c new has now back = by (get s key) refl
  where
    by : (r : Option Held) → get s key ≡ r → with_placed_of key ps t ≡ s
    by None at =
        absurd (let no : None ≡ Some c =
        ap (option_map (λ h. h.content)) (sym at) ∙ has in cc)
    by (Some h) at =
        let less : Held = record h { content = new } in
        let put : t ≡ insert s key less =
        now
        ∙ ap (λ r. option_map_or (λ held. insert s key (record held { content = new })) r s) at in
        let there : get t key ≡ Some less =
        ap (λ m. get m key) put ∙ (at_insert s key less key
        ∙ ap (λ b. cond b (Some less) (get s key)) ((bytes_eq-Decides key key).1 refl)) in
        let content : c ≡ h.content =
        (let one : Some c ≡ Some h.content =
        sym has ∙ ap (option_map (λ x. x.content)) at in cc) in
        ap (λ r. option_map_or (λ held. insert t key (record held {
          content = with_placed ps held.content;
        })) r t) there
        ∙ (ap (λ x. insert t key (record h { content = x })) (back ∙ content)
        ∙ put_over key s t h at (λ q e. ap (λ m. get m q) put
        ∙ (at_insert s key less q ∙ ap (λ b. cond b (Some less) (get s q)) e)))
