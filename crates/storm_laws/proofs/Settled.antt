-- A world whose links and clients are those of a storm, and what is found there.
use Rattle.std.proofs.Common.{◌≡◌, ◌<◌, ℕ, zero, suc, List, [], ◌∷◌, Some, None, Option, codes}
use Rattle.std.proofs.Common.{length, map, slice_index_or, refl, sym, ap, subst, ◌∙◌, arith}
use Rattle.std.specs.Prelude.{◌&&◌, position}
use Rattle.std.specs.Str.{bytes_eq}
use Rattle.std.proofs.lemmas.List.{length-map}
use Rattle.std.proofs.lemmas.List.Quantifiers.{position-Some}
use Rattle.shared_cache.specs.declared.log.Wire.TheVariants.{Main, Side}
use Rattle.shared_cache.specs.Laws.{Every}
use Rattle.shared_cache.specs.Log.{is_wire}
use Rattle.server_links.specs.declared.link.Link.{Link}
use Rattle.server_links.specs.LinksState.{names}
use Rattle.server_links.specs.LinkSteps.{place_of}
use Rattle.server_links.proofs.NameLists.{position_map, position_same}
use Rattle.world_run.specs.WorldState.{EndState, LinkEnd, MemberState, WorldState, client_at}
use Rattle.world_run.specs.WorldState.{end_at, end_of_link, fresh_end, link_on, member_at}
use Rattle.world_run.specs.Members.{seat_at}
use Rattle.world_run.specs.World.{end_named}
use Rattle.storm_laws.proofs.LinkMoves.{place_is}
use Rattle.storm_laws.proofs.ClientMoves.{HasLinks}

-- ---- the links and the clients of a storm

abbrev links_made : List (List ℕ)
links_made =
    codes "a.data" ∷ codes "b.inv" ∷ codes "b.data" ∷ codes "c.inv" ∷ codes "c.data"
    ∷ codes "d.data" ∷ codes "w" ∷ []

abbrev clients_made : List (List ℕ)
clients_made = codes "a" ∷ codes "b" ∷ codes "c" ∷ codes "d" ∷ []

abbrev ends_made : List LinkEnd
ends_made =
    record { client = 0; wire = Main; link = codes "a.data"; place = 0 }
    ∷ record { client = 1; wire = Side; link = codes "b.inv"; place = 1 }
    ∷ record { client = 1; wire = Main; link = codes "b.data"; place = 2 }
    ∷ record { client = 2; wire = Side; link = codes "c.inv"; place = 3 }
    ∷ record { client = 2; wire = Main; link = codes "c.data"; place = 4 }
    ∷ record { client = 3; wire = Main; link = codes "d.data"; place = 5 }
    ∷ []

pub record IsSettled (w : WorldState) : Type 0 where
  pub links : names w.links.links ≡ links_made
  pub ends : map (λ (e : EndState). e.end) w.ends ≡ ends_made
  pub clients : map (λ (m : MemberState). m.name) w.members ≡ clients_made

-- ---- what is found there

abbrev place_in : List (List ℕ) → List ℕ → Option ℕ
place_in ns name = position (λ n. bytes_eq n name) ns

-- one of the links
abbrev pub IsLink : List ℕ → Type 0
IsLink name = (at : ℕ) × (place_in links_made name ≡ Some at)

abbrev end_in : List (List ℕ) → List LinkEnd → List ℕ → Option ℕ
end_in ns es name =
    position (λ (e : LinkEnd). is_wire e.wire Main && bytes_eq (slice_index_or ns e.client []) name)
    es

-- one of the clients
abbrev pub IsClient : List ℕ → Type 0
IsClient name = (at : ℕ) × (end_in clients_made ends_made name ≡ Some at)

name_at : (ms : List MemberState) (at : ℕ)
    → (member_at ms at).name ≡ slice_index_or (map (λ (m : MemberState). m.name) ms) at []
name_at [] at = refl
name_at (m ∷ ms) zero = refl
name_at (m ∷ ms) (suc at) = name_at ms at

no_end : LinkEnd
no_end = (fresh_end 0 Main [] 0).end

end_is : (es : List EndState) (at : ℕ)
    → (end_at es at).end ≡ slice_index_or (map (λ (e : EndState). e.end) es) at no_end
unfolding no_end
end_is [] at = refl
end_is (e ∷ es) zero = refl
end_is (e ∷ es) (suc at) = end_is es at

end_link : (link : List ℕ) (es : List EndState)
    → end_of_link link es
    ≡ position (λ (e : LinkEnd). bytes_eq e.link link) (map (λ (e : EndState). e.end) es)
end_link link es =
    sym (position_map (λ (e : EndState). e.end) (λ (e : LinkEnd). bytes_eq e.link link) es)

end_client : (name : List ℕ) (w : WorldState)
    → end_named name w
    ≡ end_in (map (λ (m : MemberState). m.name) w.members) (map (λ (e : EndState). e.end) w.ends)
    name
end_client name w =
    let ns = map (λ (m : MemberState). m.name) w.members in
    let test = λ (e : LinkEnd).
    is_wire e.wire Main && bytes_eq (slice_index_or ns e.client []) name in
    position_same _ (λ (e : EndState). test e.end)
    (λ e. ap (λ n. is_wire e.end.wire Main && bytes_eq n name) (name_at w.members e.end.client))
    w.ends
    ∙ sym (position_map (λ (e : EndState). e.end) test w.ends)

pub end_below : (link : List ℕ) (es : List EndState) (at : ℕ) → end_of_link link es ≡ Some at
    → at < length es
end_below link es at h =
    (position-Some (λ (e : EndState). bytes_eq e.end.link link) es at (fresh_end 0 Main [] 0) h).0

-- at each end there is its link, and the one that its client's commands go on
abbrev IsJoined : List (List ℕ) → List (List ℕ) → LinkEnd → Type 0
IsJoined ls ns e =
    (place_in ls e.link ≡ Some e.place)
    × ((main : ℕ) × (place_in ls (link_on Main (slice_index_or ns e.client [])) ≡ Some main))

all_joined : Every (IsJoined links_made clients_made) ends_made
all_joined = (
  (refl, (0, refl)),
  (
    (refl, (2, refl)),
    (
      (refl, (2, refl)),
      (
        (refl, (4, refl)),
        ((refl, (4, refl)), ((refl, (5, refl)), tt)),
      ),
    ),
  ),
)

every_index : {A : Type 0} → (P : A → Type 0) (xs : List A) (d : A) → Every P xs → (i : ℕ)
    → i < length xs → P (slice_index_or xs i d)
every_index P [] d all i lt = absurd (let no : ⊥ = omega (arith, lt) in no)
every_index P (x ∷ xs) d all zero lt = all.0
every_index P (x ∷ xs) d all (suc i) lt = every_index P xs d all.1 i (omega (arith, lt))

module _ (w : WorldState) (s : IsSettled w) where
  pub link_found : (name : List ℕ) → IsLink name
      → (at : ℕ) × (place_of name w.links ≡ Some at)
  link_found name is =
      (is.0, place_is name w.links ∙ ap (λ ns. place_in ns name) s.links ∙ is.1)

  pub client_found : (name : List ℕ) → IsClient name
      → (at : ℕ) × (end_named name w ≡ Some at)
  client_found name is = (
    is.0,
    end_client name w
        ∙ ap (λ ns. end_in ns (map (λ (e : EndState). e.end) w.ends) name) s.clients
        ∙ ap (λ es. end_in clients_made es name) s.ends ∙ is.1,
  )

  -- the link w has no client
  pub raw_alone : end_of_link (codes "w") w.ends ≡ None
  raw_alone =
      end_link (codes "w") w.ends
      ∙ ap (λ es. position (λ (e : LinkEnd). bytes_eq e.link (codes "w")) es) s.ends

  pub links_count : length w.links.links ≡ 7
  links_count = sym (length-map w.links.links (λ (l : Link). l.name)) ∙ ap length s.links

  ends_count : length w.ends ≡ 6
  ends_count = sym (length-map w.ends (λ (e : EndState). e.end)) ∙ ap length s.ends

  end_joined : (at : ℕ) → at < length w.ends
      → IsJoined (names w.links.links) (map (λ (m : MemberState). m.name) w.members)
      (end_at w.ends at).end
  end_joined at lt =
      let below : at < 6 = omega (arith, lt, ends_count) in
      subst (λ ls. IsJoined ls (map (λ (m : MemberState). m.name) w.members)
      (end_at w.ends at).end) (sym s.links)
      (subst (λ ns. IsJoined links_made ns (end_at w.ends at).end) (sym s.clients)
      (subst (IsJoined links_made clients_made)
      (sym (end_is w.ends at ∙ ap (λ es. slice_index_or es at no_end) s.ends))
      (every_index (IsJoined links_made clients_made) ends_made no_end all_joined at below)))

  pub has_links : (at : ℕ) → at < length w.ends → HasLinks (end_at w.ends at).end (seat_at at w)
  has_links at lt =
      let e = (end_at w.ends at).end in
      let j = end_joined at lt in
      record {
        own = place_is e.link w.links ∙ j.0;
        main_place = j.1.0;
        main = place_is (link_on Main (client_at w at).name) w.links
            ∙ ap (λ n. place_in (names w.links.links) (link_on Main n))
            (name_at w.members e.client)
            ∙ j.1.1;
      }
