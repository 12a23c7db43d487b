-- The keys of mentions.
use Rattle.std.proofs.Common.{◌≡◌, ◌∷◌, [], ℕ, true, List, Contains, map, Option, Some, None}
use Rattle.std.proofs.Common.{refl, sym, ap, ◌∙◌, subst, inl, inr}
use Rattle.std.proofs.lemmas.Option.{same_Some}
use Rattle.expr_tree.specs.declared.word_list.WordUse.{WordUse}
use Rattle.def_entry.specs.declared.key.Key.{Key}
use Rattle.def_entry.specs.SameKeys.{is_entry_key_among, is_same_entry_key}
use Rattle.def_entry.specs.Tables.{EntryTable}
use Rattle.def_entry.proofs.SameKeys.{same_entry_keys}
use Rattle.table_names.specs.Leads.{TableWordsLeadTo, table_word_targets}
use Rattle.table_names.specs.Words.{table_words_of_key}
use Rattle.value_sources.specs.declared.resolution.Resolution.TheVariants.{PrefixedUnit}
use Rattle.value_sources.specs.Mentions.{Mention, mention_by, mentions, mentions_to}
use Rattle.value_sources.specs.Rows.{first_mentions}
use Rattle.value_sources.specs.Uses.{SourceUse, key_source_uses, source_use_words}
use Rattle.value_sources.proofs.Words.{source_use_words_at, source_uses_law}
use Rattle.general_lemmas.proofs.Members.{no_member, member_cases, any_member, any_cases, map_member, map_cases}
use Rattle.general_lemmas.proofs.Members.{flat_member, flat_cases}

-- some mention of a list leads to the key
abbrev pub LeadOn : List Mention → Key → Type 0
LeadOn ms n = (m : Mention) × Contains ms m × (m.target ≡ Some n)

-- a key is found among others if and only if it is one of them
pub mention_key_among_is_member : (ks : List Key) (n : Key) → is_entry_key_among ks n ≡ true → Contains ks n
mention_key_among_is_member ks n e =
    let r : (k : Key) × Contains ks k × (is_same_entry_key n k ≡ true) = any_cases (is_same_entry_key n) ks e in
    subst (Contains ks) (sym ((same_entry_keys n r.0).0 r.2)) r.1

pub mention_key_member_is_among : (ks : List Key) (n : Key) → Contains ks n → is_entry_key_among ks n ≡ true
mention_key_member_is_among ks n i = any_member (is_same_entry_key n) ks n i ((same_entry_keys n n).1 refl)

-- ---- the mentions of a word lead to its keys
prefixed_unit_mention_targets : (depth : ℕ) (u : SourceUse) (ns : List Key)
    → map (λ (m : Mention). m.target) (map (mention_by PrefixedUnit depth u) ns) ≡ map (λ (n : Key). Some n) ns
prefixed_unit_mention_targets depth u [] = refl
prefixed_unit_mention_targets depth u (n ∷ ns) = ap (λ (os : List (Option Key)). Some n ∷ os)
    (prefixed_unit_mention_targets depth u ns)

mention_targets_of_keys : (depth : ℕ) (u : SourceUse) (n : Key) (ns : List Key)
    → map (λ (m : Mention). m.target) (mentions_to depth u (n ∷ ns)) ≡ map (λ (n : Key). Some n) (n ∷ ns)
mention_targets_of_keys depth u n [] = refl
mention_targets_of_keys depth u n (k ∷ ks) = ap (λ (os : List (Option Key)). Some n ∷ os)
    (prefixed_unit_mention_targets depth u (k ∷ ks))

mentions_to_cases : (depth : ℕ) (u : SourceUse) (ns : List Key) (m : Mention) (n : Key)
    → Contains (mentions_to depth u ns) m
    → m.target ≡ Some n → Contains ns n
mentions_to_cases depth u [] m n i e =
    elim (member_cases m (record { depth = depth; site = u.site; word = u.word; resolution = _; target = None }) [] i) [
      | inl q ↦ let z : None ≡ Some n = sym (ap (λ (x : Mention). x.target) q) ∙ e in cc
      | inr j ↦ absurd (no_member m j)
    ]
mentions_to_cases depth u (k ∷ ks) m n i e =
    let there : Contains (map (λ (x : Mention). x.target) (mentions_to depth u (k ∷ ks))) m.target =
    map_member (λ (x : Mention). x.target) (mentions_to depth u (k ∷ ks)) m i in
    let among : Contains (map (λ (x : Key). Some x) (k ∷ ks)) m.target =
    subst (λ (os : List (Option Key)). Contains os m.target) (mention_targets_of_keys depth u k ks) there in
    let r : (j : Key) × Contains (k ∷ ks) j × (m.target ≡ Some j) =
    map_cases (λ (x : Key). Some x) (k ∷ ks) m.target among in
    subst (Contains (k ∷ ks)) (same_Some r.0 n (sym r.2 ∙ e)) r.1

mentions_to_member : (depth : ℕ) (u : SourceUse) (ns : List Key) (n : Key) → Contains ns n
    → (m : Mention) × Contains (mentions_to depth u ns) m × (Some n ≡ m.target)
mentions_to_member depth u [] n i = absurd (no_member n i)
mentions_to_member depth u (k ∷ ks) n i =
    map_cases (λ (x : Mention). x.target) (mentions_to depth u (k ∷ ks)) (Some n)
    (subst (λ (os : List (Option Key)). Contains os (Some n)) (sym (mention_targets_of_keys depth u k ks))
    (map_member (λ (x : Key). Some x) (k ∷ ks) n i))

-- ---- mentions of words lead exactly to the keys that the words lead to
mentions_lead_cases : (table : EntryTable) (depth : ℕ) (uses : List SourceUse) (n : Key)
    → LeadOn (mentions table depth uses) n
    → TableWordsLeadTo table (source_use_words uses) n
mentions_lead_cases table depth uses n (m, i, e) =
    let r : (u : SourceUse) × Contains uses u × Contains (mentions_to depth u (table_word_targets table u.word)) m =
    flat_cases (λ (u : SourceUse). mentions_to depth u (table_word_targets table u.word)) uses m i in (
      r.0.word,
      map_member (λ (u : SourceUse). u.word) uses r.0 r.1,
      mentions_to_cases depth r.0 (table_word_targets table r.0.word) m n r.2 e,
    )

mentions_lead_member : (table : EntryTable) (depth : ℕ) (uses : List SourceUse) (n : Key)
    → TableWordsLeadTo table (source_use_words uses) n
    → LeadOn (mentions table depth uses) n
mentions_lead_member table depth uses n (w, i, t) =
    let r : (u : SourceUse) × Contains uses u × (w ≡ u.word) = map_cases (λ (u : SourceUse). u.word) uses w i in
    let l : (m : Mention) × Contains (mentions_to depth r.0 (table_word_targets table r.0.word)) m × (Some n ≡ m.target)
    =
    mentions_to_member depth r.0 (table_word_targets table r.0.word) n
    (subst (λ (x : WordUse). Contains (table_word_targets table x) n) r.2 t) in (
      l.0,
      flat_member (λ (u : SourceUse). mentions_to depth u (table_word_targets table u.word)) uses r.0 l.0 r.1
          l.1,
      sym l.2,
    )

-- the mentions of an entry lead exactly to the keys that its words lead to
pub entry_mentions_cases : (table : EntryTable) (depth : ℕ) (k n : Key)
    → LeadOn (mentions table depth (key_source_uses table k)) n
    → TableWordsLeadTo table (table_words_of_key table k) n
entry_mentions_cases table depth k n l =
    subst (λ (ws : List WordUse). TableWordsLeadTo table ws n) (source_uses_law table k)
    (mentions_lead_cases table depth (key_source_uses table k) n l)

pub entry_mentions_member : (table : EntryTable) (depth : ℕ) (k n : Key)
    → TableWordsLeadTo table (table_words_of_key table k) n
    → LeadOn (mentions table depth (key_source_uses table k)) n
entry_mentions_member table depth k n l =
    mentions_lead_member table depth (key_source_uses table k) n
    (subst (λ (ws : List WordUse). TableWordsLeadTo table ws n) (sym (source_uses_law table k)) l)

-- the mentions of an expression lead exactly to the keys that its words lead to
pub first_mentions_cases : (table : EntryTable) (words : List WordUse) (n : Key) → LeadOn (first_mentions table words) n
    → TableWordsLeadTo table words n
first_mentions_cases table words n l =
    subst (λ (ws : List WordUse). TableWordsLeadTo table ws n) (source_use_words_at _ words)
    (mentions_lead_cases table 0 _ n l)

pub first_mentions_member : (table : EntryTable) (words : List WordUse) (n : Key) → TableWordsLeadTo table words n
    → LeadOn (first_mentions table words) n
first_mentions_member table words n l =
    mentions_lead_member table 0 _ n
    (subst (λ (ws : List WordUse). TableWordsLeadTo table ws n) (sym (source_use_words_at _ words)) l)
