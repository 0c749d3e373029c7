mod Joined
mod Faultless
mod MadeNodes
mod MadeArcs
mod MadeNetwork
mod Written
mod Linked
