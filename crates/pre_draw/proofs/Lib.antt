mod DrawLemmas
mod TraceLemmas
