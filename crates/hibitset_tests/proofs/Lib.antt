mod Lists
mod Masks
