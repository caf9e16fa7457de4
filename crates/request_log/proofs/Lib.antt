mod TakenLemmas
