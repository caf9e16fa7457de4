mod AddressLemmas
mod ContentLemmas
