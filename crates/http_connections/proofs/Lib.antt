mod Accepted
mod ProgressLemmas
mod ContentLemmas
mod Exchanges
mod SeatLemmas
