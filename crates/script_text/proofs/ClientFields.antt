-- How a client is set up comes back from the parts of its line, and its parts from that.
use Rattle.std.proofs.Common.{◌≡◌, ℕ, List, [], ◌∷◌, ◌++◌, Bool, true, false, cond, refl, ap}
use Rattle.std.proofs.Common.{◌∙◌, subst, codes, arith}
use Rattle.std.specs.declared.option.Option.{Option}
use Rattle.std.specs.declared.option.Option.TheVariants.{None, Some}
use Rattle.std.specs.List.{list_all}
use Rattle.std.specs.Option.{option_and_then}
use Rattle.std.specs.Str.{bytes_eq}
use Rattle.command_words.specs.Printed.{printed}
use Rattle.resp_value.specs.declared.value.Proto.{Proto}
use Rattle.resp_value.specs.declared.value.Proto.TheVariants.{Two, Three}
use Rattle.shared_cache.specs.declared.log.Shape.{Shape}
use Rattle.shared_cache.specs.declared.log.Shape.TheVariants.{Single, Pair}
use Rattle.shared_cache.specs.declared.log.Caching.{Caching}
use Rattle.shared_cache.specs.declared.log.Caching.TheVariants.{Default, OptIn, OptOut, Bcast}
use Rattle.shared_cache.specs.declared.log.ClientMode.{ClientMode}
use Rattle.script_text.specs.Words.{word_of, first_and_rest, is_within, number_within}
use Rattle.script_text.specs.Clients.{shape_of, proto_of, may_speak, has_noloop, after_noloop}
use Rattle.script_text.specs.Clients.{prefixes_of, caching_of, most_keys, mode_of, with_keys}
use Rattle.script_text.specs.Clients.{client_from, client_of}
use Rattle.script_text.specs.Grammar.{are_bytes, shape_text, proto_text, caching_text, noloop_parts}
use Rattle.script_text.specs.Grammar.{prefixes_in, prefix_parts, client_parts, is_mode}
use Rattle.script_text.proofs.Numbers.{both_true, both, number_within-decimal}
use Rattle.script_text.proofs.Numbers.{decimal-number_within, small_within}
use Rattle.script_text.proofs.Choices.{none_is_some, same_text, by_word, named, when}
use Rattle.script_text.proofs.Parts.{is_unbroken, printed-unbroken, decimal-unbroken}
use Rattle.script_text.proofs.Spelling.{word_of-printed, printed-word_of}
use Rattle.script_text.proofs.Fields.{word-bytes, split_words}

prefixes_there : (prefixes : List (List ℕ)) → list_all are_bytes prefixes ≡ true
    → prefixes_of (prefix_parts prefixes) ≡ Some prefixes
prefixes_there [] h = refl
prefixes_there (prefix ∷ prefixes) h =
    ap (λ o. first_and_rest o (prefixes_of (prefix_parts prefixes)))
    (word_of-printed prefix (printed prefix) (both_true _ _ h).0 refl)
    ∙ ap (first_and_rest (Some prefix)) (prefixes_there prefixes (both_true _ _ h).1)

noloop_there : (noloop : Bool) (prefixes : List (List ℕ))
    → has_noloop (noloop_parts noloop ++ prefix_parts prefixes) ≡ noloop
noloop_there true prefixes = refl
noloop_there false [] = refl
noloop_there false (prefix ∷ prefixes) = refl

mode_there : (mode : ClientMode) → may_speak mode.shape mode.proto ≡ true
    → mode_of (Some mode.shape) (Some mode.proto) (Some mode.caching) mode.noloop ≡ Some mode
mode_there mode h = named _ _ mode h refl

pub client_there : (mode : ClientMode) (keys : ℕ) → is_mode mode ≡ true
    → is_within 1 most_keys keys ≡ true → client_of (client_parts mode keys) ≡ Some (mode, keys)
unfolding client_from
client_there mode keys m k =
    grind (arith, prefixes_there, noloop_there, mode_there, number_within-decimal, small_within)

-- ---- no part holds a blank
shape-unbroken : (shape : Shape) → is_unbroken (shape_text shape) ≡ true
shape-unbroken shape = grind arith

prefixes-unbroken : (prefixes : List (List ℕ))
    → list_all is_unbroken (prefix_parts prefixes) ≡ true
prefixes-unbroken [] = refl
prefixes-unbroken (prefix ∷ prefixes) =
    both _ _ (printed-unbroken prefix) (prefixes-unbroken prefixes)

pub client-unbroken : (mode : ClientMode) (keys : ℕ) → is_within 1 most_keys keys ≡ true
    → list_all is_unbroken (client_parts mode keys) ≡ true
client-unbroken mode keys k =
    grind (arith, both, shape-unbroken, decimal-unbroken, small_within, prefixes-unbroken)

-- ---- from the parts to the mode
shape_back : (text : List ℕ) (shape : Shape) → shape_of text ≡ Some shape → shape_text shape ≡ text
shape_back text shape =
    let P = λ (s : Shape). shape_text s ≡ text in
    by_word P (codes "single") text Single shape _ (λ e. e) (
    by_word P (codes "pair") text Pair shape None (λ e. e) (none_is_some (P shape) shape))

proto_back : (text : List ℕ) (proto : Proto) → proto_of text ≡ Some proto → proto_text proto ≡ text
proto_back text proto =
    let P = λ (p : Proto). proto_text p ≡ text in
    by_word P (codes "2") text Two proto _ (λ e. e) (
    by_word P (codes "3") text Three proto None (λ e. e) (none_is_some (P proto) proto))

caching_back : (text : List ℕ) (prefixes : List (List ℕ)) (caching : Caching)
    → caching_of text prefixes ≡ Some caching
    → (caching_text caching ≡ text) × (prefixes_in caching ≡ prefixes)
caching_back text [] caching =
    let P = λ (c : Caching). (caching_text c ≡ text) × (prefixes_in c ≡ []) in
    by_word P (codes "bcast") text (Bcast []) caching _ (λ e. (e, refl)) (
    by_word P (codes "default") text Default caching _ (λ e. (e, refl)) (
    by_word P (codes "optin") text OptIn caching _ (λ e. (e, refl)) (
    by_word P (codes "optout") text OptOut caching None (λ e. (e, refl))
    (none_is_some (P caching) caching))))
caching_back text (prefix ∷ prefixes) caching =
    let P = λ (c : Caching). (caching_text c ≡ text) × (prefixes_in c ≡ prefix ∷ prefixes) in
    by_word P (codes "bcast") text (Bcast (prefix ∷ prefixes)) caching None (λ e. (e, refl))
    (none_is_some (P caching) caching)

pub record PrefixesComeFrom (texts prefixes : List (List ℕ)) : Type 0 where
  parted : prefix_parts prefixes ≡ texts
  of_bytes : list_all are_bytes prefixes ≡ true

prefixes_back : (texts prefixes : List (List ℕ)) → prefixes_of texts ≡ Some prefixes
    → list_all are_bytes texts ≡ true → PrefixesComeFrom texts prefixes
prefixes_back [] prefixes h b = grind arith
prefixes_back (word ∷ []) prefixes h b = cc
prefixes_back (word ∷ text ∷ texts) prefixes h b =
    let test = when (bytes_eq word (codes "prefix"))
    (first_and_rest (word_of text) (prefixes_of texts)) prefixes h in
    let parts = split_words (word_of text) (prefixes_of texts) prefixes test.1 in
    let prefix = parts.0 in
    let rest = parts.1.0 in
    let first = parts.1.1.0 in
    let bytes = both_true _ _ (both_true _ _ b).1 in
    let more : PrefixesComeFrom texts rest = prefixes_back texts rest parts.1.1.1 bytes.1 in
    subst (λ ps. PrefixesComeFrom (word ∷ text ∷ texts) ps) parts.1.1.2 (record {
      parted = ap (λ w. w ∷ printed prefix ∷ prefix_parts rest)
          (same_text word (codes "prefix") test.0)
          ∙ ap (λ t. word ∷ t ∷ prefix_parts rest) (printed-word_of prefix text first)
          ∙ ap (λ ts. word ∷ text ∷ ts) more.parted;
      of_bytes = both _ _ (word-bytes text prefix first bytes.0) more.of_bytes;
    })

noloop_kept : (t : Bool) (word : List ℕ) (rest : List (List ℕ)) → (t ≡ true → codes "noloop" ≡ word)
    → noloop_parts t ++ cond t rest (word ∷ rest) ≡ word ∷ rest
noloop_kept t word rest f = grind arith

after_bytes : (options : List (List ℕ)) → list_all are_bytes options ≡ true
    → list_all are_bytes (after_noloop options) ≡ true
after_bytes options h = grind (arith, codes, both_true)

record ModeComesFrom (shape : Option Shape) (proto : Option Proto) (caching : Option Caching)
    (noloop : Bool) (mode : ClientMode) : Type 0 where
  shape_read : shape ≡ Some mode.shape
  proto_read : proto ≡ Some mode.proto
  caching_read : caching ≡ Some mode.caching
  noloop_read : noloop ≡ mode.noloop
  speaks : may_speak mode.shape mode.proto ≡ true

mode_back : (shape : Option Shape) (proto : Option Proto) (caching : Option Caching) (noloop : Bool)
    (mode : ClientMode) → mode_of shape proto caching noloop ≡ Some mode
    → ModeComesFrom shape proto caching noloop mode
mode_back shape proto caching noloop mode h = grind (arith, when)

keys_back : (mode : Option ClientMode) (keys : Option ℕ) (made : ClientMode × ℕ)
    → with_keys mode keys ≡ Some made → (mode ≡ Some made.0) × (keys ≡ Some made.1)
keys_back mode keys made h = grind arith

pub there_then : {A B : Type 0} (f : A → Option B) (o : Option A) (y : B)
    → option_and_then f o ≡ Some y → (x : A) × ((o ≡ Some x) × (f x ≡ Some y))
there_then f o y h = grind arith

behind_bytes : (part : List ℕ) (parts : List (List ℕ)) → list_all are_bytes (part ∷ parts) ≡ true
    → list_all are_bytes parts ≡ true
behind_bytes part parts h = (both_true (are_bytes part) (list_all are_bytes parts) h).1

pub record ClientComesFrom (parts : List (List ℕ)) (made : ClientMode × ℕ) : Type 0 where
  pub parted : client_parts made.0 made.1 ≡ parts
  pub mode_fits : is_mode made.0 ≡ true
  pub keys_fit : is_within 1 most_keys made.1 ≡ true

pub client_back : (parts : List (List ℕ)) (made : ClientMode × ℕ) → client_of parts ≡ Some made
    → list_all are_bytes parts ≡ true → ClientComesFrom parts made
unfolding client_from
client_back [] made h b = cc
client_back (shape ∷ []) made h b = cc
client_back (shape ∷ proto ∷ []) made h b = cc
client_back (shape ∷ proto ∷ caching ∷ []) made h b = cc
client_back (shape ∷ proto ∷ caching ∷ keys ∷ options) made h b =
    let found = keys_back _ (number_within 1 most_keys keys) made h in
    let mode : ModeComesFrom (shape_of shape) (proto_of proto)
    (option_and_then (caching_of caching) (prefixes_of (after_noloop options))) (has_noloop options)
    made.0 = mode_back _ _ _ _ made.0 found.0 in
    let cached = there_then (caching_of caching) (prefixes_of (after_noloop options)) made.0.caching
    mode.caching_read in
    let texts = caching_back caching cached.0 made.0.caching cached.1.1 in
    let bytes = behind_bytes keys options (grind (arith, behind_bytes)) in
    let prefixes : PrefixesComeFrom (after_noloop options) cached.0 =
    prefixes_back (after_noloop options) cached.0 cached.1.0 (after_bytes options bytes) in
    let number = decimal-number_within 1 most_keys made.1 keys found.1 in
    grind (arith, shape_back, proto_back, both, noloop_kept, codes, same_text)
